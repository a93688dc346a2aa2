-- What is promised of a verdict and of a refusal follows from what was told.
use Rattle.judge9.proofs.Words.{[], Answer, answer_of, Answers, ap, append_assoc, AreCounts, AreParts, arith, Beginning, Bool, BrokenPart, by_totals, by_verdict, CanBeResult, CaptureError, counting}
use Rattle.judge9.proofs.Words.{Err, Extent, false, HasHeader, History, IfErr, IfNone, IfSome, if◌then◌else◌, inl, inr, is_of_text, IsAnswerFrom, IsHistory, IsOfSomeText, IsOk, IsStartOf}
use Rattle.judge9.proofs.Words.{IsTheAnswer, Judged, judged_from, judged_rows, JudgeError, length, length-append, line_rules, LineByte, List, most_rows, None, Ok, Option, option_map, passed_before}
use Rattle.judge9.proofs.Words.{Profile, refl, Rest, Result, Rows, rows_of, rows_within, Scope, Some, StoppedBefore, subst, tail_short, Terms, Totals, true, Verdict, View, ℕ, ◌++◌, ◌+◌, ◌∷◌, ◌≡◌}
use Rattle.judge9.proofs.Words.{◌≢◌, ◌≤◌}
use Rattle.capture9.proofs.LawLemmas.{can-be}
use Rattle.capture9.proofs.Words.{default_config, records, strip_bom}
use Rattle.judge9.proofs.LawLemmas.{answer_once, cut_tail, part_ok}
use Rattle.judge9.proofs.LineSteps.{cut_counts}
use Rattle.judge9.proofs.PartSteps.{judged_more, judged_size}

-- ---- what is judged of the rows

-- where no part broke, it is the last part
module _ {terms : Terms} {beginning : Beginning} {h : History} (is : IsHistory terms beginning h) (none : h.broken ≡ []) (all : h.part.records ≡ is.left.records) where
  pub judged_part : judged_from beginning h.items ≡ record { past = h.part.past; records = h.part.records }
  judged_part = let left : is.left ≡ judged_from beginning h.items = rw none at is.parts in rw (← left, is.past, all) refl

  judged_ok : IsOk terms (judged_from beginning h.items).records
  judged_ok = rw judged_part (part_ok is.is_part)

-- where a part broke, it begins with that
pub judged_broken : {terms : Terms} (beginning : Beginning) (b : BrokenPart) {left : Rest} (items all : List LineByte) → AreParts terms (judged_from beginning items) (b ∷ []) left → IsStartOf items all
    → (after : List LineByte) × (judged_from beginning all ≡ record { past = b.part.past; records = b.part.records ++ b.breaking ∷ after })
judged_broken beginning b items all parts start = elim (judged_more beginning items start.0) [
  | inl none ↦ absurd (omega (arith, ap length none, ap (λ (r : Rest). length r.records) parts.1, length-append b.part.records (b.breaking ∷ parts.0)))
  | inr same ↦ (parts.0 ++ start.0, rw (start.1, same, parts.1, append_assoc) refl)
]

-- ---- a verdict, and a refusal

abbrev pub up_to_break : Beginning → Scope
up_to_break beginning = record { extent = Extent.FirstBreak; beginning = beginning }

-- an answer is the only one
the_answer : (beginning : Beginning) (profile : Profile) (rows : Rows) (answer : Answer) → IsAnswerFrom beginning profile rows answer → IsTheAnswer beginning profile rows answer
the_answer beginning profile rows answer h = record { is_answer = h; only = λ other k. answer_once profile (passed_before beginning rows) (judged_rows beginning rows) other answer k h }

module _ {view : View} {beginning : Beginning} {profile : Profile} {known : Option Rows} {old new : Option (List ℕ)} where
  pub right : (r : Result Verdict JudgeError) (j : Judged view (up_to_break beginning) profile known (by_verdict r) old new) → IfSome (answer_of r) (IsTheAnswer beginning profile j.told.rows)
  right (Ok (Verdict.Yes records exchanges tail)) j =
      let h = j.told.so_far.history in
      let is = j.told.so_far.is_history in
      let (end, none, number, exchange_number, tail_number) = j.told.written.0 in
      let counts : AreCounts (counting profile) h.part.records records exchanges tail = record {
        cut_exchanges = h.part.exchanges;
        cut_tail = h.part.tail;
        cut = is.is_part.cut;
        run = is.is_part.run;
        number = number;
        exchange_number = exchange_number;
        tail_number = tail_number;
      } in
      let yes = Answer.judged (Verdict.Yes records exchanges tail) in
      rw end.all (the_answer beginning profile _ yes (refl, rw (judged_part is none end.all_judged) counts))
  right (Ok (Verdict.No at reason)) j =
      let (b, one, number, same) = j.told.written.0 in
      let parts = rw one at j.told.so_far.is_history.parts in
      let rest = judged_broken beginning b j.told.so_far.history.items j.told.rows.records parts j.told.so_far.start in
      rw same (the_answer beginning profile j.told.rows (Answer.judged (Verdict.No at b.reason)) (record {
        before = b.part.records;
        next = b.breaking;
        after = rest.0;
        split = ap (λ (r : Rest). r.records) rest.1;
        number = omega (arith, number, ap (λ (r : Rest). r.past) rest.1);
        breaks = parts.3;
      }))
  right (Err (JudgeError.Capture e)) j = by (is_of_text e.kind) refl
    where
      by : (b : Bool) → is_of_text e.kind ≡ b → IfSome (if b then Some (Answer.unreadable e) else None) (IsTheAnswer beginning profile j.told.rows)
      by true text = rw (j.told.written.0.fault text) (the_answer beginning profile _ (Answer.unreadable e)
          (refl, judged_ok j.told.so_far.is_history (j.refusal.2 refl) j.told.written.0.all_judged))
      by false other = tt
  right (Err e) j = tt

  can_be : (r : Result Verdict JudgeError) (j : Judged view (up_to_break beginning) profile known (by_verdict r) old new) → length j.told.rows.records ≤ most_rows → CanBeResult r
  can_be (Ok (Verdict.Yes records exchanges tail)) j few =
      let h = j.told.so_far.history in
      let is = j.told.so_far.is_history in
      let (end, none, number, exchange_number, tail_number) = j.told.written.0 in
      let some = cut_counts (line_rules (counting profile)) h.part.records h.part.exchanges h.part.tail is.is_part.cut in
      let part = judged_part is none end.all_judged in
      rw (number, exchange_number, tail_number) (record {
        few = omega (arith, few, ap (λ (a : Rows). length a.records) end.all, judged_size beginning h.items, ap (λ (r : Rest). r.past + length r.records) part);
        short = tail_short (line_rules (counting profile)) h.part.tail (cut_tail (line_rules (counting profile)) h.part.records h.part.exchanges h.part.tail is.is_part.cut);
        enough = some.0;
        no_more = some.1;
      })
  can_be (Ok (Verdict.No at reason)) j few =
      let (b, one, number, same) = j.told.written.0 in
      let parts = rw one at j.told.so_far.is_history.parts in
      let start = j.told.so_far.start in
      let size = ap (λ (r : Rest). r.past + length r.records) parts.1 in
      let more = length-append b.part.records (b.breaking ∷ parts.0) in
      let all = length-append j.told.so_far.history.items start.0 in
      record { counted = omega (arith, number); few = omega (arith, few, number, size, more, all, ap length start.1, judged_size beginning j.told.so_far.history.items) }
  can_be (Err (JudgeError.Capture e)) j few =
      let h = j.told.so_far.history in
      let start = j.told.so_far.start in
      let all = length-append h.items start.0 in
      record {
        few = elim j.told.written.0.place.row [ inl at ↦ omega (arith, at, few, all, ap length start.1) | inr at ↦ omega (arith, at.0) ];
        at_its_row = j.told.written.0.place.at_its_row;
      }
  can_be (Err e) j few = tt

-- ---- where the text is known, or not

few_of : (text : Option (List ℕ)) (limit : ℕ) (rows : Rows) → IfSome (option_map (rows_within limit) text) (λ all. rows ≡ all) → IfNone (option_map (rows_within limit) text) (IsOfSomeText limit rows)
    → length rows.records ≤ limit
few_of None limit rows known (t, same) = rw (← same) ((can-be limit (records default_config (strip_bom t))).within)
few_of (Some t) limit rows same some = rw same ((can-be limit (records default_config (strip_bom t))).within)

module _ {view : View} {beginning : Beginning} {profile : Profile} {old new : Option (List ℕ)} where
  answer : (text : Option (List ℕ)) (r : Result Verdict JudgeError) → Judged view (up_to_break beginning) profile (option_map rows_of text) (by_verdict r) old new
      → IfSome text (λ t. IfSome (answer_of r) (IsTheAnswer beginning profile (rows_of t)))
  answer None r j = tt
  answer (Some t) r j = subst (λ rows. IfSome (answer_of r) (IsTheAnswer beginning profile rows)) j.told.is_known (right r j)

  stopped : (text : Option (List ℕ)) (r : Result Verdict JudgeError) → Judged view (up_to_break beginning) profile (option_map rows_of text) (by_verdict r) old new
      → IfSome text (λ t. IfErr r (StoppedBefore beginning profile (rows_of t)))
  stopped None r j = tt
  stopped (Some t) (Err (JudgeError.Capture e)) j = λ read. record {
    items = j.told.so_far.history.items;
    start = subst (λ (rows : Rows). IsStartOf j.told.so_far.history.items rows.records) j.told.is_known j.told.so_far.start;
    place = j.told.written.0.place;
    has_header = j.refusal.1;
    is_ok = judged_ok j.told.so_far.is_history (j.refusal.2 refl) j.told.written.0.all_judged;
  }
  stopped (Some t) r j = tt

  pub answers_of : (text : Option (List ℕ)) (r : Result Verdict JudgeError) → Judged view (up_to_break beginning) profile (option_map rows_of text) (by_verdict r) old new
      → Answers beginning profile text r
  answers_of text r j = record {
    answer = answer text r j;
    stopped = stopped text r j;
    is_kind = λ e q. (subst (λ x. Judged view (up_to_break beginning) profile (option_map rows_of text) (by_verdict x) old new) q j).refusal.0;
    can_be = can_be r j (few_of text most_rows j.told.rows j.told.is_known j.told.of_a_text);
  }

-- the header of a capture that is judged part by part
pub headed_of : {view : View} {scope : Scope} {profile : Profile} {old new : Option (List ℕ)} (text : Option (List ℕ)) (limit : ℕ) (r : Result Totals JudgeError)
    → Judged view scope profile (option_map (rows_within limit) text) (by_totals r) old new
    → IfSome text (λ t. (e : CaptureError) → r ≡ Err (JudgeError.Capture e) → e.row ≢ 0 → HasHeader (rows_within limit t))
headed_of None limit r j = tt
headed_of {view = view} {scope = scope} {profile = profile} {old = old} {new = new} (Some t) limit r j =
    λ e q. (subst (λ x. Judged view scope profile (option_map (rows_within limit) (Some t)) (by_totals x) old new) q j).refusal.1
