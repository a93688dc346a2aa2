-- The records that were read of a text, their history and what is counted of it, and the rows that a judging speaks of.
use Rattle.capture9.specs.declared.records.Standing.TheVariants.{Reading}
use Rattle.judge9.proofs.LineSteps.{cut_counts, cut_len, records_joined}
use Rattle.judge9.proofs.Words.{[], ap, append-nil, append_assoc, AreGiven, AreRead, arith, Beginning, BrokenPart, CanBeRows, CaptureError, events_of, exchanges_of, Extent, Feed, Fits, given-more}
use Rattle.judge9.proofs.Words.{given-none, GivesRecord, GoesOn, greatest_limit, History, IfNone, IfSome, InPart, IsBesides, IsFresh, IsHistory, IsOfSomeText, IsStartOf, length, length-append}
use Rattle.judge9.proofs.Words.{line_rules, LineByte, List, None, Option, Part, Progress, records_in, refl, Rows, rows_allowed, Some, some-text, sym, TakesRecord, Terms, WereGiven, WereRead, ℕ, ◌++◌}
use Rattle.judge9.proofs.Words.{◌∙◌, ◌∷◌, ◌≡◌, ◌≤◌}

-- before a row is read
pub unread : (rows : Option Rows) → WereRead rows [] rows
unread None = tt
unread (Some rows) = (rows, refl, refl)

-- a row more was read
pub read-more : (rows before after : Option Rows) (items : List LineByte) (r : LineByte) → WereRead rows items before → TakesRecord before r after
    → WereRead rows (items ++ r ∷ []) after
read-more None before after items r h k = tt
read-more (Some rows) None after items r h k = cc
read-more (Some rows) (Some left) after items r h k =
    let same : h.0 ≡ record { records = r ∷ k.0.records; fault = k.0.fault } = cc (k.2) in
    (k.0, k.1, rw append_assoc (h.2 ∙ ap (λ (x : Rows). let y : Rows = record { records = items ++ x.records; fault = x.fault } in y) same))

-- as the rows of a text that may have so many
pub given_of : {R : Type 0} {limit : ℕ} {rows : Option Rows} {items : List LineByte} {progress : Progress R} → AreRead limit rows items progress → AreGiven limit items progress
given_of h = record { same_limit = h.same_limit; can_be = h.can_be; given = h.given; last_time = h.last_time }

-- as those of a text that is known or not
read_of : {R : Type 0} {limit : ℕ} {rows : Option Rows} {items : List LineByte} {progress : Progress R} → AreGiven limit items progress → progress.standing ≡ Reading
    → WereRead rows items progress.rows → AreRead limit rows items progress
read_of given is_reading read = record {
  is_reading = is_reading;
  read = read;
  same_limit = given.same_limit;
  can_be = given.can_be;
  given = given.given;
  last_time = given.last_time;
}

-- before the first
pub read_none : {R : Type 0} {limit : ℕ} {terms : Terms} {j : Feed R} → IsFresh limit terms j → AreRead limit j.rows.rows [] j.rows
read_none {limit = limit} {j = j} fresh = read_of (given-none limit j.rows fresh.limited fresh.none_given fresh.no_time) fresh.is_reading (unread j.rows.rows)

-- one record more
pub read_next : {R : Type 0} {limit : ℕ} (rows : Option Rows) (items : List LineByte) (old new : Progress R) (r : LineByte) → AreRead limit rows items old
    → GivesRecord old r new → AreRead limit rows (items ++ r ∷ []) new
read_next rows items old new r h gives = read_of (given-more items old new r (given_of h) gives) gives.is_reading (read-more rows old.rows new.rows items r h.read gives.rows)

-- a capture may have no more rows than can be numbered
pub allowed : (extent : Extent) → rows_allowed extent ≤ greatest_limit
allowed extent = grind arith

pub given_here : {R : Type 0} {limit : ℕ} {rows : Option Rows} {items : List LineByte} {progress : Progress R} → AreRead limit rows items progress → WereGiven limit rows items
given_here {progress = progress} read = record { left = progress.rows; read = read.read; can_be = read.can_be }

-- ---- lists of parts with one part more

pub exchanges_push : (broken : List BrokenPart) (b : BrokenPart) → exchanges_of (broken ++ b ∷ []) ≡ exchanges_of broken ++ b.part.exchanges
exchanges_push [] b = append-nil b.part.exchanges
exchanges_push (x ∷ broken) b = rw (exchanges_push broken b, append_assoc)

pub events_push : (broken : List BrokenPart) (b : BrokenPart) → events_of (broken ++ b ∷ []) ≡ events_of broken ++ b.events
events_push [] b = append-nil b.events
events_push (x ∷ broken) b = rw (events_push broken b, append_assoc)

-- ---- what is counted

-- a part that has more records has all the exchanges within them
pub fit : {R : Type 0} {limit : ℕ} {terms : Terms} {rows : Option Rows} {past : List LineByte} {part : Part} {j : Feed R} (broken : List BrokenPart) → InPart limit terms rows past part j
    → Fits broken past
    → (length (exchanges_of broken ++ part.exchanges) ≤ length (past ++ part.records)) × (records_in (exchanges_of broken ++ part.exchanges) ≤ length (past ++ part.records))
fit {terms = terms} {past = past} {part = part} broken h fits =
    let size = length-append past part.records in
    let cut = h.is_part.cut in (
      omega (arith, size, fits.exchanges, (cut_counts (line_rules terms) part.records part.exchanges part.tail cut).0, length-append (exchanges_of broken) part.exchanges),
      omega (arith, size, fits.records, cut_len (line_rules terms) part.records part.exchanges part.tail cut, records_joined (exchanges_of broken) part.exchanges),
    )

-- with the part that breaks
pub fits_behind : {R : Type 0} {limit : ℕ} {terms : Terms} {rows : Option Rows} {past : List LineByte} {j : Feed R} (broken : List BrokenPart) (b : BrokenPart)
    → InPart limit terms rows past b.part j → Fits broken past → Fits (broken ++ b ∷ []) (past ++ b.part.records)
fits_behind broken b h fits =
    let both = fit broken h fits in
    record { exchanges = rw (exchanges_push broken b) both.0; records = rw (exchanges_push broken b) both.1 }

-- ---- the parts of what was read

-- these records were read behind those of the other parts: first the part's, and then others, of which this is told
abbrev pub history_at : {R : Type 0} {limit : ℕ} {terms : Terms} {beginning : Beginning} {rows : Option Rows} {past : List LineByte} {j : Feed R} (h : History)
    → InPart limit terms rows past h.part j → (records : List LineByte) → IsStartOf h.part.records records → h.items ≡ past ++ records → GoesOn terms beginning h.broken past records
    → IsBesides terms (record { past = length past; records = records }) h.part h.besides → IsHistory terms beginning h
history_at {past = past} h in_part records begins items on besides = record {
  left = record { past = length past; records = records };
  parts = rw items (rw append-nil at (on [] (record { past = length past; records = records }) refl));
  is_part = in_part.is_part;
  past = in_part.number;
  begins = begins;
  besides = besides;
}

-- ---- the rows that a judging speaks of

-- after these records: the rows of the text where they are known, and else the records alone with this fault or none; a text may
-- have at most `limit` rows
pub record Seen (limit : ℕ) (rows left : Option Rows) (items : List LineByte) (fault : Option CaptureError) : Type 0 where
  pub all : Rows
  pub is_known : IfSome rows (λ a. all ≡ a)
  pub of_a_text : IfNone rows (IsOfSomeText limit all)
  pub start : IsStartOf items all.records
  pub whole : IfSome left (λ rest. rest ≡ record { records = []; fault = fault }) → all ≡ record { records = items; fault = fault }

pub seen : (limit : ℕ) (rows left : Option Rows) (items : List LineByte) (fault : Option CaptureError) → WereRead rows items left
    → CanBeRows limit (record { records = items; fault = fault }) → Seen limit rows left items fault
seen limit None left items fault read can = record {
  all = record { records = items; fault = fault };
  is_known = tt;
  of_a_text = some-text limit _ can;
  start = ([], sym (append-nil items));
  whole = λ _. refl;
}
seen limit (Some a) left items fault read can =
    let whole : IfSome left (λ rest. rest ≡ record { records = []; fault = fault }) → a ≡ record { records = items; fault = fault } = λ none. let last =
    rw read.1 at none in rw (last, append-nil) at read.2 in
    record { all = a; is_known = refl; of_a_text = tt; start = (read.0.records, ap (λ (x : Rows). x.records) read.2); whole = whole }
