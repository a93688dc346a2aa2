-- How a judging ends that a view is shown: as `check` ends.
use Rattle.std.specs.Prelude.{◌≡◌, ⊤, ℕ, List, Option, None, Result, Ok, Err, option_map}
use Rattle.capture9.specs.Fields.{greatest_limit}
use Rattle.capture9.specs.Rows.{rows_within}
use Rattle.deck9.specs.declared.profile.Profile.{Profile}
use Rattle.report9.specs.declared.error.JudgeError.{JudgeError}
use Rattle.report9.specs.declared.error.JudgeError.TheVariants as error
use Rattle.report9.specs.declared.totals.Totals.{Totals}
use Rattle.report9.specs.declared.verdict.Beginning.{Beginning}
use Rattle.report9.specs.declared.verdict.Extent.{Extent}
use Rattle.report9.specs.declared.verdict.Extent.TheVariants.{FirstBreak, WholeCapture}
use Rattle.report9.specs.declared.verdict.Scope.{Scope}
use Rattle.report9.specs.declared.verdict.Verdict.{Verdict}
use Rattle.report9.specs.declared.verdict.View.TheVariants as view
use Rattle.judge9.specs.Judging.{Answers}
use Rattle.judge9.specs.Report.{Told, by_totals}
use Rattle.judge9.specs.Standing.{totals_of, verdict_of}
use Rattle.judge9.specs.declared.judging.Judging.{Judging}
use Rattle.seen9.specs.declared.seen.Ending.{Ending}
use Rattle.seen9.specs.declared.seen.Ending.TheVariants as ending

-- how a judging to the first break, and one over all parts, ends
abbrev pub by_verdict : Result Verdict JudgeError → Result Ending JudgeError
by_verdict (Ok verdict) = Ok (ending.Verdict verdict)
by_verdict (Err e) = Err e

abbrev pub by_parts : Result Totals JudgeError → Result Ending JudgeError
by_parts (Ok totals) = Ok (ending.Totals totals)
by_parts (Err e) = Err e

-- a judging of this text, where it is known, as `check` judges it, ends so: to the first break it is the right verdict, and over all
-- parts the right totals
abbrev pub IsCheckedFor : Extent → Beginning → Profile → Option (List ℕ) → Result Ending JudgeError → Type 0
IsCheckedFor FirstBreak beginning profile text ended =
    (judged : Result Verdict JudgeError) × Answers beginning profile text judged × (ended ≡ by_verdict judged)
IsCheckedFor WholeCapture beginning profile text ended =
    (judged : Result Totals JudgeError)
    × Told view.Verdict (record { extent = WholeCapture; beginning = beginning }) profile (option_map (rows_within greatest_limit) text) (by_totals judged) None None
    × (ended ≡ by_parts judged)

abbrev pub IsChecked : Scope → Profile → Option (List ℕ) → Result Ending JudgeError → Type 0
IsChecked scope profile text ended = IsCheckedFor scope.extent scope.beginning profile text ended

-- what a judging that has ended comes to
abbrev pub ending_at : {R : Type 0} → Extent → Judging R → Ending
ending_at FirstBreak j = ending.Verdict (verdict_of j)
ending_at WholeCapture j = ending.Totals (totals_of j)

-- a view itself fails where it can't write, or for want of memory
abbrev pub IsOfView : JudgeError → Type 0
IsOfView (error.Capture e) = ⊥
IsOfView error.Write = ⊤
IsOfView error.OutOfMemory = ⊤
