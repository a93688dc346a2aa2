-- The records so far of a part: before the first one, and with one record more that keeps the rules.
use Rattle.judge9.proofs.Words.{[], append-nil, append_assoc, AreRead, arith, Bool, Break, Breaks, Comes, cut_once, Does, events_by, Exchange, exchanges_after, false, false≢true, Feed, Follower}
use Rattle.judge9.proofs.Words.{GivesRecord, HasRun, inl, InPart, inr, IsKept, IsOk, IsOpen, IsTail, KeepsEnds, KnowsNothing, length, length-append, line_rules, LineByte, List, no_part, None}
use Rattle.judge9.proofs.Words.{Observes, Option, Outcome, Paired, Part, Progress, refl, Rows, run_start, Some, some_end, Spoils, tail_after, tail_by_kept, Takes, Terms, Tracked, ℕ, ◌++◌, ◌+◌, ◌∙◌}
use Rattle.judge9.proofs.Words.{◌∷◌, ◌≡◌, ◌≤◌}
use Rattle.judge9.proofs.CutSteps.{cut-exchange, cut-step}
use Rattle.judge9.proofs.EventSteps.{events_push}
use Rattle.judge9.proofs.LawLemmas.{no_run_first, tail_breaks}
use Rattle.block9.proofs.CutLemmas.{exchange_less}
use Rattle.judge9.proofs.ReadSteps.{read_next}
use Rattle.judge9.proofs.RunSteps.{follows-more, follows-start}
use Rattle.judge9.proofs.Told.{outcomes_of, part_of}

-- the part with one record more, which does this
abbrev pub with_record : Part → LineByte → Outcome → Part
with_record part r o = record {
  past = part.past;
  records = part.records ++ r ∷ [];
  exchanges = exchanges_after part.exchanges o;
  tail = tail_after part.tail r o;
  events = part.events ++ events_by (part.past + length part.records + 1) part.exchanges part.tail r o;
}

-- a record with which nothing is told is open, and leaves the exchanges and what was told as they are
pub open_same : (o : Outcome) → IsOpen o → (n : ℕ) (es : List Exchange) (t : List LineByte) (r : LineByte)
    → (exchanges_after es o ≡ es) × (events_by n es t r o ≡ []) × (tail_after t r o ≡ t ++ r ∷ [])
open_same o is_open n es t r = grind arith

-- before the first record of a part
pub begun : {R : Type 0} {limit : ℕ} {terms : Terms} {rows : Option Rows} {past : List LineByte} {j : Feed R}
    → KnowsNothing terms j.follower → AreRead limit rows past j.rows → InPart limit terms rows past (no_part (length past)) j
begun {terms = terms} {j = j} begins read = record {
  is_part = record { cut = (refl, IsTail.nothing refl); run = run_start terms.profile; are_events = refl };
  number = refl;
  open_records = rw begins.fed_nothing;
  follows = follows-start terms.profile j.follower.tracker begins.states begins.profile begins.going;
  no_reason = rw begins.fed_nothing;
  same_rules = rw begins.fed_nothing;
  in_order = rw begins.fed_nothing (λ x e. cc);
  are_read = rw append-nil read;
}

pub later : {R : Type 0} {progress after : Progress R} {paired next : Paired} {r : LineByte} {s : Outcome} → GivesRecord progress r after → Takes paired r s next
    → (x : ℕ) → next.last_time ≡ Some x → x ≤ after.last_time
later given takes x e = grind arith

module _ {R : Type 0} {limit : ℕ} {terms : Terms} {rows : Option Rows} {past : List LineByte} {part : Part} {j : Feed R} (h : InPart limit terms rows past part j) where
  -- a record more was read
  pub read_on : {after : Progress R} {r : LineByte} → GivesRecord j.rows r after → AreRead limit rows (past ++ (part.records ++ r ∷ [])) after
  read_on {after = after} {r = r} gives = rw append_assoc at (read_next rows (past ++ part.records) j.rows after r h.are_read gives)

  -- its number
  pub number_on : {after : Progress R} {r : LineByte} → GivesRecord j.rows r after → after.given ≡ part.past + length part.records + 1
  number_on gives = omega (arith, gives.given, h.are_read.given, length-append past part.records, h.number)

  -- what a record more does, by the rules of the terms
  pub step_on : {next : Paired} {r : LineByte} {s : Outcome} → Takes j.follower.pairer r s next → Does (line_rules terms) part.tail r s
  step_on {r = r} {s = s} takes = rw (h.same_rules, h.open_records) at takes.does

  -- after a row, after which the exchanges have a run
  pub more : {k : Feed R} {r : LineByte} (s : Outcome) → GivesRecord j.rows r k.rows → Takes j.follower.pairer r s k.follower.pairer
      → HasRun terms.profile (exchanges_after part.exchanges s) → KeepsEnds terms.profile (exchanges_after part.exchanges s) k.follower.tracker
      → InPart limit terms rows past (with_record part r s) k
  more {k = k} {r = r} s gives takes run follows = record {
    is_part = part_of (cut-step (line_rules terms) part.records part.exchanges part.tail r s h.is_part.cut (step_on takes)) run
        (events_push (line_rules terms) [] part.past [] [] part.records r part.events part.exchanges part.tail s (refl, IsTail.nothing refl) h.is_part.cut (outcomes_of h.is_part) (step_on takes));
    number = h.number;
    open_records = rw h.open_records at takes.tail;
    follows = follows;
    no_reason = takes.reason;
    same_rules = takes.rules ∙ h.same_rules;
    in_order = λ x e. later gives takes x e;
    are_read = read_on gives;
  }

  -- one of which nothing is told
  pub more_open : {k : Feed R} {r : LineByte} (c : Comes j k r None) → InPart limit terms rows past (with_record part r c.took.outcome) k
  more_open {r = r} c =
      let w = c.took in
      let same = (open_same w.outcome w.is_open 0 part.exchanges [] r).0 in
      more w.outcome c.gives w.takes (rw same h.is_part.run) (rw (same, w.same_tracker) h.follows)

  -- the tracker has observed one exchange more
  pub observed_more : {k : Tracked} {e : Exchange} {b : Bool} → Observes j.follower.tracker k e b → KeepsEnds terms.profile (part.exchanges ++ e ∷ []) k
  observed_more {k = k} {e = e} o = follows-more terms.profile part.exchanges e j.follower.tracker k h.follows o.reached o.profile o.going

  -- ---- a record that breaks a rule

  -- no run remains with the exchange that it ends
  pub none_observed : {k : Tracked} {e : Exchange} → Observes j.follower.tracker k e false → ¬ HasRun terms.profile (part.exchanges ++ e ∷ [])
  none_observed {e = e} o run =
      let end = (some_end terms.profile (part.exchanges ++ e ∷ [])).1 run in
      false≢true (o.remains.1 (end.0, ((observed_more o).states end.0).1 end.1))

  -- or the rule is one of pairing
  pub breaks : {after : Follower} {b : Break} → Spoils j.follower after b → Breaks terms part.records b.record b.reason
  breaks {b = b} (inl refused) =
      let is = rw (h.same_rules, h.open_records) at refused.0.is_reason in
      let not_kept : ¬ IsKept (line_rules terms) (part.tail ++ b.record ∷ []) = rw (h.same_rules, h.open_records) at refused.0.not_kept in
      tail_breaks terms part.records part.exchanges part.tail b.record b.reason h.is_part.cut h.is_part.run
      (λ kept. not_kept (tail_by_kept (line_rules terms) part.records part.exchanges part.tail (b.record ∷ []) h.is_part.cut kept)) is
  breaks {b = b} (inr (is, c, in_time)) =
      let whole = step_on c.takes in
      let cut = cut-exchange (line_rules terms) part.records part.exchanges part.tail b.record c.exchange h.is_part.cut whole in
      let less = (exchange_less (line_rules terms) part.tail b.record c.exchange whole).1 in
      let first = no_run_first terms part.exchanges part.tail b.record c.exchange less whole (none_observed c.observes) in
      let not_ok : ¬ IsOk terms (part.records ++ b.record ∷ []) = λ ok.
      none_observed c.observes (rw (cut_once (line_rules terms) (part.records ++ b.record ∷ []) ok.exchanges (part.exchanges ++ c.exchange ∷ []) ok.tail [] ok.cut cut).0 at ok.run) in
      rw is (record { exchanges = part.exchanges; tail = part.tail; cut = h.is_part.cut; run = h.is_part.run; not_ok = not_ok; is_reason = first })
