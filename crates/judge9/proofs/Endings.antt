-- A judging that has ended: its verdict or its totals, and with them the last line.
use Rattle.judge9.proofs.Words.{[], AllTold, ap, append-nil, Appends, Appends-trans, AppendsPart, AreCounted, AreParts, AreTotals, arith, begins_next_part, Break, BrokenPart, ComesToEnd, Ending}
use Rattle.judge9.proofs.Words.{ending_of, Err, events_of, exchanges_of, Extent, History, inl, inr, IsEnding, IsEndingOf, IsToTheEnd, Judged, judged_from, JudgeError, Judging, Kept, last_line}
use Rattle.judge9.proofs.Words.{late_replies, length, length-append, length_push, line_of, line_rules, LineByte, List, None, Ok, Option, part_after, Profile, Reason, records_in, refl, Rest}
use Rattle.judge9.proofs.Words.{rest_after, Result, Rows, rows_allowed, Scope, Some, Stage, StandsAt, Stops, subst, sym, Terms, terms_for, Told, told_in, Totals, totals_of, Turn, Verdict}
use Rattle.judge9.proofs.Words.{verdict_at, View, Written, ℕ, ◌++◌, ◌+◌, ◌-◌, ◌∙◌, ◌∷◌, ◌≡◌, ◌≢◌, ◌≤◌}
use Rattle.judge9.proofs.EventSteps.{late_joined}
use Rattle.judge9.proofs.LineSteps.{cut_len, records_joined}
use Rattle.judge9.proofs.PartSteps.{either, from_size, judged_size, rest_after_low}
use Rattle.judge9.proofs.ReadSteps.{Seen, seen}
use Rattle.judge9.proofs.Reports.{IsOver, SoFar, unbroken}
use Rattle.judge9.proofs.Results.{seen_of, told_by}
use Rattle.judge9.proofs.Texts.{text_silent}

-- the verdict of a judging that has not come to a break
pub not_broken : (t : Totals) (stage : Stage) → ((b : Break) → stage ≢ Stage.Broken b) → Verdict.Yes (t.records - t.passed_over) t.exchanges t.tail ≡ verdict_at t stage
not_broken t (Stage.Broken b) other = absurd (other b refl)
not_broken t stage other = refl

-- ---- how many records there are

rest_size : (n : ℕ) (reason : Reason) (breaking : LineByte) (after : List LineByte)
    → (rest_after n reason breaking after).past + length (rest_after n reason breaking after).records ≡ n + 1 + length after
rest_size n reason breaking after =
    either (λ (rest : Rest). rest.past + length rest.records ≡ n + 1 + length after) (begins_next_part reason breaking) _ _ (omega arith) (from_size (n + 1) (Some breaking) after)

-- the exchanges of the parts are among the records that come before what is left
parts_fit : (terms : Terms) (rest left : Rest) (broken : List BrokenPart) → AreParts terms rest broken left
    → (rest.past + records_in (exchanges_of broken) ≤ left.past) × (left.past + length left.records ≡ rest.past + length rest.records)
parts_fit terms rest left [] is = rw is (omega arith, refl)
parts_fit terms rest left (b ∷ broken) (after, same, part, breaks, tells, others) =
    let at = b.part.past + length b.part.records in
    let more = parts_fit terms (rest_after at b.reason b.breaking after) left broken others in
    let size = rest_size at b.reason b.breaking after in
    let parts = length-append b.part.records (b.breaking ∷ after) in
    rw same (
      omega (
        arith,
        more.0,
        rest_after_low at b.reason b.breaking after,
        cut_len (line_rules terms) b.part.records b.part.exchanges b.part.tail part.cut,
        records_joined b.part.exchanges (exchanges_of broken),
      ),
      omega (arith, more.1, size, parts),
    )

-- ---- the rows came to their end

module _ {R : Type 0} (scope : Scope) {profile : Profile} {rows : Option Rows} {h : History} (j : Judging R)
    (ends : ComesToEnd (rows_allowed scope.extent) (terms_for scope.extent profile) scope.beginning rows h j.feed) (counted : AreCounted h j.counts) where
  at_end : Seen (rows_allowed scope.extent) rows ends.before.rows h.items None
  at_end = seen (rows_allowed scope.extent) rows ends.before.rows h.items None ends.are_read.read ends.are_read.can_be

  given : j.feed.rows.given ≡ length h.items
  given = ends.ends.given ∙ ends.are_read.given

  size : length h.part.records ≡ records_in h.part.exchanges + length h.part.tail
  size = cut_len (line_rules (terms_for scope.extent profile)) h.part.records h.part.exchanges h.part.tail ends.is_history.is_part.cut

  are_totals : AreTotals (length h.items) h.broken h.part (totals_of j)
  are_totals =
      let fit = parts_fit (terms_for scope.extent profile) (judged_from scope.beginning h.items) ends.is_history.left h.broken ends.is_history.parts in
      let tails = ap length ends.open_records in
      let told : told_in h ≡ h.part.events = ap (λ l. h.part.events ++ l) ends.none_besides ∙ append-nil h.part.events in record {
        breaks = omega (arith, counted.breaks, ap late_replies told, late_joined (events_of h.broken) h.part.events);
        all_records = given;
        exchanges = counted.exchanges;
        tail = tails;
        passed_over = omega (
          arith,
          fit.0,
          fit.1,
          size,
          tails,
          given,
          counted.records,
          records_joined (exchanges_of h.broken) h.part.exchanges,
          ap length ends.all_judged,
          judged_size scope.beginning h.items,
          ends.is_history.past,
        );
      }

  to_the_end : IsToTheEnd at_end.all h ends.is_history.left None
  to_the_end = record { all = at_end.whole ends.ends.none_left; all_judged = ends.all_judged; none_besides = ends.none_besides }

  ending_at : (x : Extent) → (x ≡ Extent.FirstBreak → h.broken ≡ []) → j.stage ≡ Stage.Ended → IsEnding at_end.all h ends.is_history.left (ending_of x j)
  ending_at Extent.WholeCapture none at = (to_the_end, are_totals)
  ending_at Extent.FirstBreak none at =
      let t : AreTotals (length h.items) [] h.part (totals_of j) = rw (none refl) at are_totals in
      subst (λ (stage : Stage). IsEnding at_end.all h ends.is_history.left (Ending.judged (verdict_at (totals_of j) stage))) (sym at)
      (to_the_end, none refl, omega (arith, t.passed_over, given, size), t.exchanges, t.tail)

-- ---- a judging that has told all

module _ {R : Type 0} {view : View} {scope : Scope} {profile : Profile} {rows : Option Rows} {old now : Option (List ℕ)} {kept : Kept} {j k : Judging R} (s : SoFar view scope profile rows old now kept j) where
  -- behind a break that ends it, or with the rows
  pub all_told : IsOver j (Ok Turn.End) k → Stops scope profile rows s.history k
      → (all : AllTold view scope profile rows k old now) × (all.told.so_far.history.broken ≡ [] → s.history.broken ≡ []) × (all.told.so_far.history.part.exchanges ≡ s.history.part.exchanges)
  all_told over (inl (front, silent, ends, counts, at)) =
      let none : scope.extent ≡ Extent.FirstBreak → front.broken ≡ [] = λ is. silent.broken ∙ unbroken s over (λ b end was. cc) is in (
        record {
          told = told_by (λ is. inl (none is)) (text_silent silent s.is_text) (at_end scope k ends counts) ends.is_history (Err JudgeError.OutOfMemory) s.wrote;
          ending = ending_at scope k ends counts scope.extent none at;
          given = λ _. given scope k ends counts;
          knows = λ _. ends.knows;
        },
        (λ nil. sym silent.broken ∙ nil),
        silent.exchanges,
      )
  all_told over (inr (is, b, at, stands)) = elim (s.first is) [
    | inl none ↦
        let behind = subst (λ (x : Stage). StandsAt (rows_allowed scope.extent) (terms_for scope.extent profile) scope.beginning rows s.history x k.feed) at stands.at in
        absurd (omega (arith, ap length (sym behind.last.2 ∙ none), length_push behind.last.0 behind.last.1))
    | inr (c, was, part, one, number, reason, to) ↦
        let same = (over c (ap (λ (x : Scope). x.extent) s.stands.same_scope ∙ is) was).1 in (
          record {
            told = told_by (λ _. to) s.is_text (seen_of s.reached) s.reached.is_history (Err JudgeError.OutOfMemory) s.wrote;
            ending = subst (λ (x : Extent). IsEnding (seen_of s.reached).all s.history s.reached.is_history.left (ending_of x k)) (sym is) (rw (same, was) (part, one, sym number, sym reason));
            given = λ none. absurd (cc (one, none));
            knows = λ none. absurd (cc (one, none));
          },
          (λ nil. nil),
          refl,
        )
  ]

-- with the last line
is_of : {R : Type 0} (j : Judging R) (x : Extent) → IsEndingOf x (ending_of x j)
is_of j Extent.FirstBreak = tt
is_of j Extent.WholeCapture = tt

module _ {R : Type 0} {view : View} {scope : Scope} {profile : Profile} {rows : Option Rows} {j : Judging R} {old now : Option (List ℕ)} (all : AllTold view scope profile rows j old now)
    (end : Ending) (is : ending_of scope.extent j ≡ end) (new : Option (List ℕ)) where
  abbrev told_as : (x : Result Ending JudgeError) → Written scope.extent all.told.rows all.told.so_far.history all.told.so_far.is_history.left all.told.so_far.text x old new
      → Told view scope profile rows x old new
  told_as x written = record { rows = all.told.rows; is_known = all.told.is_known; of_a_text = all.told.of_a_text; so_far = all.told.so_far; written = written }

  abbrev pub line_told : Appends now new (last_line end) → Judged view scope profile rows (Ok end) old new
  line_told line = record { told = told_as (Ok end) (rw is at all.ending, Appends-trans old now new all.told.so_far.text (last_line end) all.told.written line); refusal = tt }

  -- or a first part of it
  pub line_unwritten : AppendsPart now new (last_line end) → Judged view scope profile rows (Err JudgeError.Write) old new
  line_unwritten part = record {
    told = told_as (Err JudgeError.Write)
        (inr (end, rw (← is) (is_of j scope.extent), rw is at all.ending, part_after old now new all.told.so_far.text (last_line end) all.told.written part));
    refusal = tt;
  }

-- the line of the verdict: that of a yes, and none of a no
pub no_line : (v : Verdict) → ((records exchanges tail : ℕ) → v ≢ Verdict.Yes records exchanges tail) → last_line (Ending.judged v) ≡ []
no_line (Verdict.Yes records exchanges tail) other = absurd (other records exchanges tail refl)
no_line (Verdict.No at reason) other = refl

pub yes_line : {records exchanges tail : ℕ} (v : Verdict) → v ≡ Verdict.Yes records exchanges tail → last_line (Ending.judged v) ≡ line_of v
yes_line v is = rw is refl
