-- What a judging tells of what it came to, and where it stands then.
use Rattle.judge9.proofs.Words.{[], ap, append-nil, append_assoc, AreEvents, AreParts, arith, Beginning, BeginsLate, besides_by, Bool, Break, BrokenPart, ComesToEnd, Err, Event, exchanges_of, false}
use Rattle.judge9.proofs.Words.{Feed, Fits, Follower, GivesRecord, GoesOn, History, inl, InPart, inr, IsRefused, IsSilent, IsTail, judged_from, JudgeError, last_time-append, length, length-append}
use Rattle.judge9.proofs.Words.{length_push, line_rules, LineByte, LineRules, List, no_part, Ok, Option, Outcome, Part, Progress, Reached, records_in, refl, ReplyLimit, Rest, rest_after, Rows}
use Rattle.judge9.proofs.Words.{run_start, Some, some_end, Spoils, Stage, StandsAt, sym, Tells, TellsBesides, Terms, true, Turn, ℕ, ◌++◌, ◌+◌, ◌∙◌, ◌∷◌, ◌≡◌, ◌≤◌, ◌⊎◌}
use Rattle.judge9.proofs.Coming.{Came, holds-more, Stays}
use Rattle.judge9.proofs.ReadSteps.{fit, fits_behind, given_here, history_at}
use Rattle.judge9.proofs.LawLemmas.{pairing_reason}
use Rattle.judge9.proofs.SoFar.{breaks, more, none_observed, number_on, observed_more, read_on, step_on, with_record}
use Rattle.judge9.proofs.Told.{told_with_break}

-- behind so many records, so many of which are those of a part
abbrev history : List LineByte → List BrokenPart → Part → List Event → History
history items broken part besides = record { items = items; broken = broken; part = part; besides = besides }

-- the records that broke a part, the one that breaks among them
abbrev broken_at : Part → Break → Bool → BrokenPart
broken_at part b late = record {
  part = part;
  breaking = b.record;
  reason = b.reason;
  events = part.events ++ besides_by (part.past + length part.records + 1) part.tail b.record late;
}

-- the event is told behind more records, of which nothing is told (`front`), and the judging stands here then
pub record Steps {R : Type 0} (limit : ℕ) (terms : Terms) (beginning : Beginning) (rows : Option Rows) (h : History) (e : Turn) (at : Stage) (k : Feed R) : Type 0 where
  pub front : History
  pub silent : IsSilent h front
  pub reached : Reached limit terms beginning rows front
  pub next : History
  pub tells : Tells terms front e next k
  pub now_reached : Reached limit terms beginning rows next
  pub stands : StandsAt limit terms beginning rows next at k
  -- where an exchange is told, all are among the records that were read
  pub few : e ≡ Turn.Exchange
      → (length (exchanges_of next.broken ++ next.part.exchanges) ≤ length next.items) × (records_in (exchanges_of next.broken ++ next.part.exchanges) ≤ length next.items)

-- ---- a record that leaves the part as one that goes on

module _ {R : Type 0} {limit : ℕ} {terms : Terms} {rows : Option Rows} {h : History} {front : Feed R} (s : Stays limit terms rows h front) where
  -- these records were read in all, and nothing more was told
  abbrev so_far : List LineByte → History
  so_far records = history (s.past ++ records) h.broken s.part []

  silent : (records : List LineByte) → IsSilent h (so_far records)
  silent records = record { broken = refl; told = append-nil s.part.events ∙ s.events; exchanges = s.exchanges; still = s.still }

  -- a record more was read
  read_one : {beginning : Beginning} {after : Progress R} {r : LineByte} → GivesRecord front.rows r after
      → ((more : List LineByte) → GoesOn terms beginning h.broken s.past (s.part.records ++ r ∷ more)) → Reached limit terms beginning rows (so_far (s.part.records ++ r ∷ []))
  read_one {r = r} gives on = record {
    is_history = history_at (so_far (s.part.records ++ r ∷ [])) s.in_part (s.part.records ++ r ∷ []) (r ∷ [], refl) refl (on []) (inl refl);
    were_given = given_here (read_on s.in_part gives);
  }

  -- and this is told of it
  goes_on : {beginning : Beginning} {k : Feed R} {r : LineByte} {e : Turn} (o : Outcome) → GivesRecord front.rows r k.rows
      → ((more : List LineByte) → GoesOn terms beginning h.broken s.past (s.part.records ++ r ∷ more)) → InPart limit terms rows s.past (with_record s.part r o) k
      → Tells terms (so_far (s.part.records ++ r ∷ [])) e (history (s.past ++ (s.part.records ++ r ∷ [])) h.broken (with_record s.part r o) []) k
      → Steps limit terms beginning rows h e Stage.Going k
  goes_on {beginning = beginning} {r = r} o gives on now tells =
      let all = s.part.records ++ r ∷ [] in
      let next = history (s.past ++ all) h.broken (with_record s.part r o) [] in
      record {
        front = so_far all;
        silent = silent all;
        reached = read_one gives on;
        next = next;
        tells = tells;
        now_reached = record { is_history = history_at next now all ([], sym (append-nil all)) refl (on []) (inl refl); were_given = given_here now.are_read };
        stands = record {
          past = s.past;
          in_part = now;
          items = refl;
          none_besides = refl;
          on = holds-more (GoesOn terms beginning h.broken s.past) s.part.records r on;
          fits = s.fits;
        };
        few = λ is. fit h.broken now s.fits;
      }

-- ---- a record that breaks a rule

-- it is told as a late reply besides where the reply limit is left aside
pub besides_late : (limit : ReplyLimit) {rules : LineRules} {t : List LineByte} {r : LineByte} → limit ≡ ReplyLimit.LeftAside → BeginsLate rules t r → TellsBesides limit rules t r true
besides_late limit aside late = rw aside late

-- it was read behind those of this history, and what is told of it besides its break was told
module _ {R : Type 0} {limit : ℕ} {terms : Terms} (beginning : Beginning) {rows : Option Rows} {past : List LineByte} {before k : Feed R} (h : History) (b : Break) (late : Bool)
    (in_part : InPart limit terms rows past h.part before) (gives : GivesRecord before.rows b.record k.rows) (spoils : Spoils before.follower k.follower b)
    (items : h.items ≡ past ++ (h.part.records ++ b.record ∷ [])) (tells : TellsBesides terms.reply_limit (line_rules terms) h.part.tail b.record late)
    (besides : h.besides ≡ besides_by (h.part.past + length h.part.records + 1) h.part.tail b.record late)
    (on : (more : List LineByte) → GoesOn terms beginning h.broken past (h.part.records ++ b.record ∷ more)) (fits : Fits h.broken past) where
  told : AreEvents terms h.part.past [] (h.part.records ++ b.record ∷ []) (broken_at h.part b late).events
  told = told_with_break h.part b.record in_part.is_part (breaks in_part spoils).not_ok late tells

  at_break : Reached limit terms beginning rows h
  at_break = record {
    is_history = history_at h in_part (h.part.records ++ b.record ∷ []) (b.record ∷ [], refl) items (on []) (inr (b.record, [], refl, b.reason, breaks in_part spoils, rw besides told));
    were_given = rw items (given_here (read_on in_part gives));
  }

  -- the parts behind it come after those before it and this one
  onward : (after : List LineByte) (others : List BrokenPart) (left : Rest) → AreParts terms (rest_after (length (past ++ h.part.records)) b.reason b.record after) others left
      → AreParts terms (judged_from beginning ((past ++ h.part.records) ++ b.record ∷ after)) ((h.broken ++ broken_at h.part b late ∷ []) ++ others) left
  onward after others left parts =
      let n : length (past ++ h.part.records) ≡ h.part.past + length h.part.records = omega (arith, in_part.number, length-append past h.part.records) in
      rw (append_assoc past h.part.records (b.record ∷ after), append_assoc h.broken (broken_at h.part b late ∷ []) others)
      (on after (broken_at h.part b late ∷ others) left (after, rw in_part.number refl, in_part.is_part, breaks in_part spoils, told, rw n at parts))

  -- the part broke
  pub spoiled : {old : History} → IsSilent old h → Steps limit terms beginning rows old (Turn.Break b) (Stage.Broken b) k
  spoiled silent =
      let number = number_on in_part gives in
      let rest = rest_after (length (past ++ h.part.records)) b.reason b.record [] in
      let all : h.items ≡ (past ++ h.part.records) ++ b.record ∷ [] = items ∙ sym (append_assoc past h.part.records (b.record ∷ [])) in
      record {
        front = h;
        silent = silent;
        reached = at_break;
        next = history h.items (h.broken ++ broken_at h.part b late ∷ []) (no_part rest.past) [];
        tells = record {
          part = broken_at h.part b late;
          broken = refl;
          exchanges = refl;
          events = rw besides refl;
          still = λ nil. inr (refl, nil);
          breaking = refl;
          reason = refl;
          number = sym number;
          shows = elim spoils [
            | inl (refused, same, late) ↦ inl (pairing_reason refused.is_reason, refused.rules ∙ in_part.same_rules, refused.tail ∙ in_part.open_records)
            | inr (is, c, in_time) ↦ inr (
              is,
              c.exchange,
              c.takes.exchange,
              step_on in_part c.takes,
              record { before = h.part.exchanges; last = c.exchange; is_split = refl; has_run = in_part.is_part.run; has_none = none_observed in_part c.observes },
            )
          ];
          told = refl;
          none_judged = (refl, refl);
          read = omega (arith, number, in_part.number, ap length all, length_push (past ++ h.part.records) b.record, length-append past h.part.records);
        };
        now_reached = record {
          is_history = record {
            left = rest;
            parts = rw all (rw append-nil at (onward [] [] rest refl));
            is_part = record { cut = (refl, IsTail.nothing refl); run = run_start terms.profile; are_events = refl };
            past = refl;
            begins = (rest.records, refl);
            besides = inl refl;
          };
          were_given = at_break.were_given;
        };
        stands = record {
          past = past ++ h.part.records;
          before = before.rows;
          are_read = in_part.are_read;
          gives = gives;
          items = all;
          last = (h.broken, broken_at h.part b late, refl, refl, sym number);
          none_told = refl;
          none_besides = refl;
          on = onward;
          fits = fits_behind h.broken (broken_at h.part b late) in_part fits;
        };
        few = λ is. absurd (cc is);
      }

-- ---- what came

module _ {R : Type 0} {limit : ℕ} {terms : Terms} {beginning : Beginning} {rows : Option Rows} {h : History} {k : Feed R} where
  pub exchange_came : Came limit terms beginning rows h (Ok Turn.Exchange) k → Steps limit terms beginning rows h Turn.Exchange Stage.Going k
  exchange_came a =
      let s = a.here in
      let t = a.turned.1 in
      let e = t.took.exchange in
      let follows = observed_more s.in_part t.took.observes in
      let end = t.took.observes.remains.0 refl in
      let run = (some_end terms.profile (s.part.exchanges ++ e ∷ [])).0 (end.0, (follows.states end.0).0 end.1) in
      goes_on s (Outcome.completes e) t.gives a.ahead (more s.in_part (Outcome.completes e) t.gives t.took.takes run follows) (record {
        e = e;
        shown = t.took.takes.exchange;
        broken = refl;
        told = simp (append-nil, number_on s.in_part t.gives);
        exchanges = refl;
        knows = follows;
        ended = t.took.takes.last_time ∙ ap Some (sym (last_time-append (line_rules terms) s.part.records (a.turned.0 ∷ []) (omega arith)));
      })

  pub late_came : {first : LineByte} → Came limit terms beginning rows h (Ok (Turn.LateReply first)) k → Steps limit terms beginning rows h (Turn.LateReply first) Stage.Going k
  late_came a =
      let s = a.here in
      let t = a.turned.1 in
      let takes = t.took.1.takes in
      rw t.took.0 (goes_on s Outcome.answers_late t.gives a.ahead (more s.in_part Outcome.answers_late t.gives takes s.in_part.is_part.run (rw t.took.1.same_tracker s.in_part.follows)) (record {
        asked = s.part.tail;
        late = (step_on s.in_part takes).1;
        rules = takes.rules ∙ s.in_part.same_rules;
        open_records = inr (rw s.in_part.open_records at takes.tail);
        broken = refl;
        told = simp (append-nil, number_on s.in_part t.gives);
        exchanges = refl;
        still = λ nil. absurd (omega (arith, ap length nil, length_push s.part.tail a.turned.0));
      }))

  -- a record that breaks a rule: it is the one that was read
  module _ {b : Break} (a : Came limit terms beginning rows h (Ok (Turn.Break b)) k) where
    gives_break : GivesRecord a.front.rows b.record k.rows
    gives_break = rw a.turned.1.took.0 a.turned.1.gives

    ahead_of : (more : List LineByte) → GoesOn terms beginning h.broken a.here.past (a.here.part.records ++ b.record ∷ more)
    ahead_of = rw a.turned.1.took.0 a.ahead

    pub break_came : TellsBesides terms.reply_limit (line_rules terms) a.here.part.tail b.record false → Steps limit terms beginning rows h (Turn.Break b) (Stage.Broken b) k
    break_came tells =
        let all = a.here.part.records ++ b.record ∷ [] in
        spoiled beginning (so_far a.here all) b false a.here.in_part gives_break a.turned.1.took.1 refl tells refl ahead_of a.here.fits (silent a.here all)

    -- and begins a late reply besides, which is told first
    pub besides_came : terms.reply_limit ≡ ReplyLimit.LeftAside → BeginsLate (line_rules terms) a.here.part.tail b.record → k.follower.pairer.rules ≡ line_rules terms
        → k.follower.pairer.tail ≡ a.here.part.tail → Steps limit terms beginning rows h (Turn.LateReply b.record) (Stage.LateTold b) k
    besides_came aside late rules tail =
        let s = a.here in
        let all = s.part.records ++ b.record ∷ [] in
        let next = history (s.past ++ all) h.broken s.part (besides_by (s.part.past + length s.part.records + 1) s.part.tail b.record true) in
        record {
          front = so_far s all;
          silent = silent s all;
          reached = read_one s gives_break ahead_of;
          next = next;
          tells = record {
            asked = s.part.tail;
            late = late;
            rules = rules;
            open_records = inl tail;
            broken = refl;
            told = simp (append-nil, number_on s.in_part gives_break);
            exchanges = refl;
            still = λ nil. inr (refl, nil);
          };
          now_reached = at_break beginning next b true s.in_part gives_break a.turned.1.took.1 refl (besides_late terms.reply_limit aside late) refl ahead_of s.fits;
          stands = record {
            past = s.past;
            before = a.front;
            in_part = s.in_part;
            gives = gives_break;
            spoils = a.turned.1.took.1;
            items = refl;
            left_aside = aside;
            late = late;
            besides = refl;
            on = ahead_of;
            fits = s.fits;
          };
          few = λ is. absurd (cc is);
        }

  -- the end, and a refusal
  pub end_came : Came limit terms beginning rows h (Ok Turn.End) k → (front : History) × IsSilent h front × ComesToEnd limit terms beginning rows front k
  end_came a =
      let s = a.here in (
        so_far s s.part.records,
        silent s s.part.records,
        record {
          is_history = history_at (so_far s s.part.records) s.in_part s.part.records ([], sym (append-nil s.part.records)) refl a.ahead (inl refl);
          all_judged = refl;
          none_besides = refl;
          before = a.front.rows;
          are_read = s.in_part.are_read;
          ends = a.turned.ends;
          open_records = ap (λ (f : Follower). f.pairer.tail) a.turned.same_follower ∙ s.in_part.open_records;
          knows = rw a.turned.same_follower s.in_part.follows;
        },
      )

  pub refusal_came : {x : JudgeError} → Came limit terms beginning rows h (Err x) k
      → (x ≡ JudgeError.OutOfMemory) ⊎ ((front : History) × IsSilent h front × IsRefused limit terms beginning rows front x k)
  refusal_came a = elim a.turned [
    | inl memory ↦ inl memory
    | inr of_rows ↦
        let s = a.here in inr (
          so_far s s.part.records,
          silent s s.part.records,
          record {
            is_history = history_at (so_far s s.part.records) s.in_part s.part.records ([], sym (append-nil s.part.records)) refl a.ahead (inl refl);
            all_judged = refl;
            none_besides = refl;
            before = a.front.rows;
            are_read = s.in_part.are_read;
            e = of_rows.0;
            refusal = of_rows.1;
            is_error = of_rows.2;
          },
        )
  ]
