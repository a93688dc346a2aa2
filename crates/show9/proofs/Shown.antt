-- A judging that a view is shown, as one of which a report on the verdict alone is made: that writes nothing here.
use Rattle.std.proofs.Common.{arith, Global, inl, refl, ◌≡◌, ◌≢◌}
use denote.RawPtr.{null_ptr}
use Rattle.std.specs.Prelude.{[], Err, ℕ, List, None, Ok, Option, option_map, Result}
use Rattle.capture9.specs.Rows.{Rows, rows_within}
use Rattle.deck9.specs.declared.profile.Profile.{Profile}
use Rattle.report9.specs.declared.error.JudgeError.{JudgeError}
use Rattle.report9.specs.declared.error.JudgeError.TheVariants as error
use Rattle.report9.specs.declared.verdict.Beginning.{Beginning}
use Rattle.report9.specs.declared.verdict.Extent.{Extent}
use Rattle.report9.specs.declared.verdict.Extent.TheVariants as extent
use Rattle.report9.specs.declared.verdict.Scope.{Scope}
use Rattle.report9.specs.declared.verdict.View.TheVariants as view
use Rattle.judge9.specs.Report.Ending.{counted, judged}
use Rattle.judge9.specs.Standing.{Advances, totals_of, verdict_of}
use Rattle.judge9.specs.Verdict.{rows_allowed, terms_for}
use Rattle.judge9.specs.Working.Reporting.{AllTold, Judged}
use Rattle.judge9.specs.declared.event.Break.{Break}
use Rattle.judge9.specs.declared.event.Event.{Event}
use Rattle.judge9.specs.declared.event.Event.TheVariants as event
use Rattle.judge9.specs.declared.judging.Judging.{Judging}
use Rattle.judge9.specs.declared.kept.Kept.{Kept}
use Rattle.judge9.specs.declared.stage.Stage.TheVariants as stage
use Rattle.judge9.proofs.Endings.{line_told}
use Rattle.judge9.proofs.Reports.{IsOver, so_far-more, SoFar, untold}
use Rattle.judge9.proofs.RunLemmas.{no_why, unwritten}
use Rattle.judge9.proofs.Results.{judged_here, judged_nothing, reached_nothing, text_of_nothing}
use Rattle.judge9.proofs.Verdicts.{answers_of}
use Rattle.show9.specs.Showing.{ending_at, IsCheckedFor, IsOfView}

-- no exchange is kept
pub no_kept : Global → Kept
no_kept alloc = record {
  exchanges = record { ptr = null_ptr; len = 0; cap = 0; alloc = alloc; items = []; ok = (refl, omega arith); small = omega arith };
  end_us = None;
}

module _ {R : Type 0} {scope : Scope} {profile : Profile} {rows : Option Rows} {kept : Kept} {j k : Judging R} (s : SoFar view.Verdict scope profile rows None None kept j) {e : Event}
    (a : Advances scope profile rows s.history e k) (over : IsOver j (Ok e) k) (other : e ≢ event.End) (broke : (b : Break) → e ≡ event.Break b → k.stage ≡ stage.Broken b) where
  -- it was shown an event more
  abbrev pub shown_more : (after : Kept) → SoFar view.Verdict scope profile rows None None after k
  shown_more after = so_far-more s a over other broke {new = None} after (unwritten profile k.feed kept.exchanges.items kept.end_us e) no_why

  -- or it refused that
  pub refused : (x : JudgeError) → IsOfView x → Judged view.Verdict scope profile rows (Err x) None None
  refused (error.Capture fault) is = absurd is
  refused error.Write is =
      let (line, text, wrote) = unwritten profile k.feed kept.exchanges.items kept.end_us e in
      untold s a over other broke view.Verdict profile refl refl error.Write None (line, text, (0, omega arith, tt))
  refused error.OutOfMemory is = untold s a over other broke view.Verdict profile refl refl error.OutOfMemory None tt

module _ {profile : Profile} (beginning : Beginning) (text : Option (List ℕ)) where
  -- how it ended
  pub checked_ending : {R : Type 0} (x : Extent) (j : Judging R) → AllTold view.Verdict (record { extent = x; beginning = beginning }) profile (option_map (rows_within (rows_allowed x)) text) j None None
      → IsCheckedFor x beginning profile text (Ok (ending_at x j))
  checked_ending extent.FirstBreak j all = (Ok (verdict_of j), answers_of text (Ok (verdict_of j)) (line_told all (judged (verdict_of j)) refl None tt), refl)
  checked_ending extent.WholeCapture j all = (Ok (totals_of j), (line_told all (counted (totals_of j)) refl None tt).told, refl)

  -- or why it did not
  pub checked_fault : (x : Extent) (e : JudgeError) → Judged view.Verdict (record { extent = x; beginning = beginning }) profile (option_map (rows_within (rows_allowed x)) text) (Err e) None None
      → IsCheckedFor x beginning profile text (Err e)
  checked_fault extent.FirstBreak e is = (Err e, answers_of text (Err e) is, refl)
  checked_fault extent.WholeCapture e is = (Err e, is.told, refl)

-- or the view was at fault
pub checked_view : (profile : Profile) (beginning : Beginning) (text : Option (List ℕ)) (x : Extent) (e : JudgeError) → IsOfView e → IsCheckedFor x beginning profile text (Err e)
checked_view profile beginning text x (error.Capture fault) is = absurd is
checked_view profile beginning text x error.OutOfMemory is =
    checked_fault beginning text x error.OutOfMemory (judged_nothing view.Verdict (record { extent = x; beginning = beginning }) profile _ None)
checked_view profile beginning text x error.Write is = checked_fault beginning text x error.Write
    (judged_here (λ first. inl refl) (text_of_nothing view.Verdict (terms_for x profile)) (reached_nothing (rows_allowed x) (terms_for x profile) beginning _) error.Write tt (inl (0, omega arith, tt)))
