-- How a judging comes to its next event: rows are read whose records come to nothing yet, and then comes an event, the end of the
-- rows, or a refusal.
use Rattle.judge9.proofs.Words.{[], ap, append-nil, append_assoc, AreRead, arith, Beginning, BeginsAt, Comes, ComesTo, Err, Feed, Fits, GoesOn, History, inl, InPart, inr, JudgeError, KnowsNothing}
use Rattle.judge9.proofs.Words.{last_of, length, length_push, LineByte, List, may_begin, no_part, None, NoneBegins, Ok, Option, Part, Progress, refl, Result, ResumesAfter, Rows, Some, subst, sym}
use Rattle.judge9.proofs.Words.{Terms, told_in, true, Turn, Turned, ℕ, ◌++◌, ◌+◌, ◌∙◌, ◌∷◌, ◌≡◌, ◌⊎◌}
use Rattle.judge9.proofs.PartSteps.{read_all}
use Rattle.judge9.proofs.SoFar.{begun, more_open, open_same, with_record}
use Rattle.judge9.proofs.TurnSteps.{opened}

-- what holds whatever comes behind these records and one more
pub holds-more : (Q : List LineByte → Type 0) (records : List LineByte) (r : LineByte) → ((more : List LineByte) → Q (records ++ r ∷ more)) → (more : List LineByte) → Q ((records ++ r ∷ []) ++ more)
holds-more Q records r on more = subst Q (sym (append_assoc records (r ∷ []) more)) (on more)

-- ---- rows whose records come to nothing yet

-- a feed stands in a part of which all that was told is told in the history
pub record Stays {R : Type 0} (limit : ℕ) (terms : Terms) (rows : Option Rows) (h : History) (j : Feed R) : Type 0 where
  pub past : List LineByte
  pub part : Part
  pub in_part : InPart limit terms rows past part j
  pub exchanges : part.exchanges ≡ h.part.exchanges
  pub events : part.events ≡ told_in h
  pub still : part.tail ≡ [] → (part.exchanges ≡ []) ⊎ ((part.records ≡ h.part.records) × (h.part.tail ≡ []))
  pub fits : Fits h.broken past

-- and these are its records, whatever comes behind them
pub record Opens {R : Type 0} (limit : ℕ) (terms : Terms) (beginning : Beginning) (rows : Option Rows) (h : History) (j : Feed R) : Type 0 where
  pub here : Stays limit terms rows h j
  pub on : (more : List LineByte) → GoesOn terms beginning h.broken here.past (here.part.records ++ more)

-- ---- what came

-- what is ahead of the records of a part where this came
abbrev pub Ahead : {R : Type 0} (front k : Feed R) → (List LineByte → Type 0) → List LineByte → (r : Result Turn JudgeError) → Turned front r k → Type 0
Ahead front k Q records (Ok Turn.End) t = Q records
Ahead front k Q records (Ok turn) t = (more : List LineByte) → Q (records ++ t.0 ∷ more)
Ahead front k Q records (Err x) t = Q records

-- this came behind `front`
pub record Came {R : Type 0} (limit : ℕ) (terms : Terms) (beginning : Beginning) (rows : Option Rows) (h : History) (r : Result Turn JudgeError) (k : Feed R) : Type 0 where
  pub front : Feed R
  pub here : Stays limit terms rows h front
  pub turned : Turned front r k
  pub ahead : Ahead front k (GoesOn terms beginning h.broken here.past) here.part.records r turned

-- it came, or memory was refused
abbrev pub Arrives : {R : Type 0} → ℕ → Terms → Beginning → Option Rows → History → Result Turn JudgeError → Feed R → Type 0
Arrives limit terms beginning rows h r k = (r ≡ Err JudgeError.OutOfMemory) ⊎ Came limit terms beginning rows h r k

all_ahead : {R : Type 0} (front k : Feed R) (Q : List LineByte → Type 0) (records : List LineByte) (r : Result Turn JudgeError) (t : Turned front r k)
    → ((more : List LineByte) → Q (records ++ more)) → Ahead front k Q records r t
all_ahead front k Q records (Ok Turn.End) t all = subst Q (append-nil records) (all [])
all_ahead front k Q records (Ok turn) t all = λ more. all (t.0 ∷ more)
all_ahead front k Q records (Err x) t all = subst Q (append-nil records) (all [])

module _ {R : Type 0} {limit : ℕ} {terms : Terms} {beginning : Beginning} {rows : Option Rows} {h : History} where
  came : {front k : Feed R} {r : Result Turn JudgeError} (s : Stays limit terms rows h front) (t : Turned front r k)
      → Ahead front k (GoesOn terms beginning h.broken s.past) s.part.records r t → Came limit terms beginning rows h r k
  came s t ahead = record { front = _; here = s; turned = t; ahead = ahead }

  -- a record more of which nothing is told
  opens-more : {j k : Feed R} {r : LineByte} (s : Stays limit terms rows h j) → ((more : List LineByte) → GoesOn terms beginning h.broken s.past (s.part.records ++ r ∷ more)) → Comes j k r None
      → Opens limit terms beginning rows h k
  opens-more {r = r} s on c =
      let o = c.took.outcome in
      let same = open_same o c.took.is_open (s.part.past + length s.part.records + 1) s.part.exchanges s.part.tail r in
      record {
        here = record {
          past = s.past;
          part = with_record s.part r o;
          in_part = more_open s.in_part c;
          exchanges = same.0 ∙ s.exchanges;
          events = rw same.1 (append-nil s.part.events ∙ s.events);
          still = λ nil. absurd (omega (arith, ap length (sym same.2 ∙ nil), length_push s.part.tail r));
          fits = s.fits;
        };
        on = holds-more (GoesOn terms beginning h.broken s.past) s.part.records r on;
      }

  -- behind a part that goes on
  pub comes : {j k : Feed R} {r : Result Turn JudgeError} (s : Stays limit terms rows h j) → ((more : List LineByte) → GoesOn terms beginning h.broken s.past (s.part.records ++ more)) → ComesTo j r k
      → Arrives limit terms beginning rows h r k
  comes {k = k} {r = r} s on c =
      let at = opened (Opens limit terms beginning rows h) (λ i k r o one. opens-more o.here (λ more. o.on (r ∷ more)) one) c.are_open.0 c.front (record { here = s; on = on }) c.are_open.1 in
      inr (came at.here c.turned (all_ahead c.front k (GoesOn terms beginning h.broken at.here.past) at.here.part.records r c.turned at.on))

  -- the first record of a part came
  at_once : {j k : Feed R} {first : LineByte} (turn : Turn) (s : Stays limit terms rows h j) → ((more : List LineByte) → GoesOn terms beginning h.broken s.past (s.part.records ++ first ∷ more))
      → Comes j k first (Some turn) → Came limit terms beginning rows h (Ok turn) k
  at_once Turn.End s on c = absurd c.took
  at_once {first = first} turn s on c = came s (first, c) on

  -- at once, or with others behind it
  pub begins : {j k : Feed R} {first : LineByte} {r : Result Turn JudgeError} (s : Stays limit terms rows h j)
      → ((more : List LineByte) → GoesOn terms beginning h.broken s.past (s.part.records ++ first ∷ more)) → BeginsAt j first r k → Arrives limit terms beginning rows h r k
  begins s on (inl (is, gives)) = inl is
  begins s on (inr (inl (turn, is, c))) = rw is (inr (at_once turn s on c))
  begins s on (inr (inr (mid, c, come))) = let o = opens-more s on c in comes o.here o.on come

-- a part of which nothing was judged
module _ {R : Type 0} {limit : ℕ} {terms : Terms} {rows : Option Rows} (h : History) (none_kept : h.part.exchanges ≡ []) (none_told : told_in h ≡ []) where
  abbrev pub starts : {past : List LineByte} {j : Feed R} → KnowsNothing terms j.follower → AreRead limit rows past j.rows → Fits h.broken past → Stays limit terms rows h j
  starts {past = past} knows read fits = record {
    past = past;
    part = no_part (length past);
    in_part = begun knows read;
    exchanges = sym none_kept;
    events = sym none_told;
    still = λ nil. inl refl;
    fits = fits;
  }

  -- records were passed over behind these, and then came the first that is judged, the end of the rows, or a refusal
  pub resumes : {beginning : Beginning} {items : List LineByte} {last : Option LineByte} {old : Progress R} {r : Result Turn JudgeError} {k : Feed R} → AreRead limit rows items old
      → ((passed : List LineByte) → Fits h.broken (items ++ passed))
      → ((passed : List LineByte) (first : LineByte) → NoneBegins last passed → may_begin (last_of last passed) first ≡ true → (more : List LineByte)
      → GoesOn terms beginning h.broken (items ++ passed) (first ∷ more))
      → ((passed : List LineByte) → NoneBegins last passed → GoesOn terms beginning h.broken (items ++ passed) []) → ResumesAfter terms last old r k
      → Arrives limit terms beginning rows h r k
  resumes {items = items} {old = old} {k = k} read fits on_first on_end c =
      let all = read_all rows items old c.mid c.passed read c.gives in elim c.then [
        | inl (first, may, new) ↦ begins (starts new.knows_nothing all (fits c.passed)) (on_first c.passed first c.none_begins may) new.with_first
        | inr (inl (is, ends, knows)) ↦ rw is (inr (came (starts knows all (fits c.passed)) (record { ends = ends; same_follower = refl }) (on_end c.passed c.none_begins)))
        | inr (inr (e, refusal, is, knows)) ↦ rw is (inr (came (starts knows all (fits c.passed)) (inr (e, refusal, refl)) (on_end c.passed c.none_begins)))
      ]
