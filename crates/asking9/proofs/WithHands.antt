-- A yes without hands is the same yes with them, for whoever asks.
use Rattle.std.proofs.Common.{Err, List, None, Ok, Option, Some, refl, true, ℕ, if◌then◌else◌, ◌≡◌}
use Rattle.capture9.specs.Rows.{rows_of}
use Rattle.deck9.proofs.LawLemmas.{run_with_hands}
use Rattle.deck9.specs.declared.deck.Deck.{Deck}
use Rattle.deck9.specs.declared.profile.Profile.{Profile}
use Rattle.deck9.specs.declared.state.Hands.TheVariants as hands
use Rattle.tc25.specs.declared.rate.Rate.{Rate}
use Rattle.report9.specs.declared.verdict.Beginning.{Beginning}
use Rattle.report9.specs.declared.verdict.Extent.{Extent}
use Rattle.report9.specs.declared.verdict.Extent.TheVariants.{FirstBreak, WholeCapture}
use Rattle.report9.specs.declared.verdict.Scope.{Scope}
use Rattle.report9.specs.declared.verdict.Verdict.{Verdict}
use Rattle.report9.specs.declared.verdict.Verdict.TheVariants as verdict
use Rattle.judge9.proofs.LawLemmas.{answer_once, yes_with_more}
use Rattle.judge9.specs.Beginning.{judged_rows, passed_before}
use Rattle.judge9.specs.Judging.{Answer, Answers}
use Rattle.seen9.specs.declared.seen.Ending.TheVariants as ending
use Rattle.asking9.specs.declared.terms.Terms.{Terms}
use Rattle.asking9.specs.Asking.{is_yes, profile_with}
use Rattle.show9.specs.Showing.{IsChecked, IsCheckedFor}

module _ (beginning : Beginning) (rate : Rate) (deck : Option Deck) (r e n : ℕ) where
  -- what it answers of a text
  same_answer : (text : Option (List ℕ)) → Answers beginning (record { rate = rate; hands = hands.None; deck = deck }) text (Ok (verdict.Yes r e n))
      → Answers beginning (record { rate = rate; hands = hands.Allowed; deck = deck }) text (Ok (verdict.Yes r e n))
  same_answer None a = record { answer = tt; stopped = tt; is_kind = λ x q. absurd (cc q); can_be = a.can_be }
  same_answer (Some text) a =
      let past = passed_before beginning (rows_of text) in
      let rows = judged_rows beginning (rows_of text) in
      let by_hand : Profile = record { rate = rate; hands = hands.Allowed; deck = deck } in
      let is = yes_with_more (record { rate = rate; hands = hands.None; deck = deck }) by_hand (λ records es t cut. cut) (run_with_hands rate deck) past rows r e n a.answer.is_answer in
      record {
        answer = record { is_answer = is; only = λ other also. answer_once by_hand past rows other (Answer.judged (verdict.Yes r e n)) also is };
        stopped = tt;
        is_kind = λ x q. absurd (cc q);
        can_be = a.can_be;
      }

  -- what `check` answers of it
  same_checked : (extent : Extent) (text : Option (List ℕ)) → IsCheckedFor extent beginning (record { rate = rate; hands = hands.None; deck = deck }) text (Ok (ending.Verdict (verdict.Yes r e n)))
      → IsCheckedFor extent beginning (record { rate = rate; hands = hands.Allowed; deck = deck }) text (Ok (ending.Verdict (verdict.Yes r e n)))
  same_checked FirstBreak text (Ok v, answers, same) = let is : v ≡ verdict.Yes r e n = cc in (Ok (verdict.Yes r e n), same_answer text (rw is at answers), refl)
  same_checked FirstBreak text (Err x, answers, same) = absurd (cc same)
  same_checked WholeCapture text (Ok totals, told, same) = absurd (cc same)
  same_checked WholeCapture text (Err x, told, same) = absurd (cc same)

-- asked with hands, what is a yes without them
pub with_hands : (scope : Scope) (deck : Option Deck) (text : Option (List ℕ)) (t u : Terms) (v : Verdict) → t.hands ≡ hands.None → u ≡ record t { hands = hands.Allowed }
    → is_yes (Ok (ending.Verdict v)) ≡ true → IsChecked scope (profile_with deck t) text (Ok (ending.Verdict v)) → IsChecked scope (profile_with deck u) text (Ok (ending.Verdict v))
with_hands scope deck text t u (verdict.No at reason) none added is checked = absurd (cc is)
with_hands scope deck text t u (verdict.Yes r e n) none added is checked =
    rw added (same_checked scope.beginning t.rate (if t.has_sheet then deck else None) r e n scope.extent text (rw none at checked))
