-- What is promised of what is made: how it ends, and of `try` what is written.
use Rattle.std.specs.Prelude.{◌≡◌, ◌⊎◌, ⊤, ℕ, List, Option, Some, Result, Ok, IfOk, IfSome, String}
use Rattle.std.specs.Global.{Global}
use Rattle.convert9.specs.declared.fault.ConvertFault.{ConvertFault}
use Rattle.convert9.specs.declared.log.times.Notice.{Notice}
use Rattle.convert9.specs.declared.split.SplitFault.{SplitFault}
use Rattle.report9.specs.declared.error.JudgeError.{JudgeError}
use Rattle.deck9.specs.declared.profile.Profile.{Profile}
use Rattle.report9.specs.declared.verdict.Extent.{Extent}
use Rattle.report9.specs.declared.verdict.Extent.TheVariants.{FirstBreak, WholeCapture}
use Rattle.report9.specs.declared.verdict.Scope.{Scope}
use Rattle.report9.specs.declared.verdict.Verdict.{Verdict}
use Rattle.info9.specs.Reading.{ReadsAll}
use Rattle.judge9.specs.Judging.{Answers}
use Rattle.seen9.specs.declared.drawn.Drawn.{Drawn}
use Rattle.seen9.specs.declared.drawn.Drawn.TheVariants.{Nothing, Picture as APicture}
use Rattle.seen9.specs.declared.drawn.WhyNothing.TheVariants.{NoBreakAt}
use Rattle.seen9.specs.declared.seen.Ending.{Ending}
use Rattle.view9.specs.declared.clock.ClockFault.{ClockFault}
use Rattle.words9.specs.declared.task.Export.{Export}
use Rattle.words9.specs.declared.task.Made.TheVariants.{Clock, Convert, Delays, Digest, Info, Json, JsonRun, Motion, Page, Picture, Split, Touches, Try}
use Rattle.program9.specs.declared.ending.Message.TheVariants as message
use Rattle.program9.specs.declared.ending.Outcome.{Outcome}
use Rattle.program9.specs.Judging.{EndsAs, Promise}
use Rattle.program9.specs.Outcome.{outcome_of}
use Rattle.program9.specs.declared.judging.Job.{Job}
use Rattle.show9.specs.Showing.{IsChecked}
use Rattle.maker9.specs.Outcome.{outcome_converted, outcome_drawn, outcome_kept, outcome_made, outcome_of_split, outcome_rewritten, outcome_told}
use Rattle.maker9.specs.Trying.{TellsAnswers}

-- what a job judges, as far as this
abbrev pub scope_for : Extent → Job → Scope
scope_for extent job = record { extent = extent; beginning = job.asked.beginning }

-- a view was made of a judging of the capture, which ends as `check` with these words does, and this is the end of the program. What stands
-- in a view is tested, and nothing is said of it here
abbrev pub EndsMade : Scope → Job → Option (List ℕ) → Outcome → Option (List ℕ) → Type 0
EndsMade scope job capture end now = EndsAs (λ judged all. IsChecked scope job.profile capture judged) outcome_made end now

-- the same of a run as JSON, whose judging ends as `run` does
abbrev pub EndsJsonRun : Job → Option (List ℕ) → Outcome → Option (List ℕ) → Type 0
EndsJsonRun job capture end now = EndsAs (λ judged all. Answers job.asked.beginning job.profile capture judged) outcome_of end now

-- the times of a text were written in another form
abbrev pub EndsRewritten : Outcome → Type 0
EndsRewritten end = (result : Result Unit ClockFault) × (end ≡ outcome_rewritten result)

-- what a capture says of itself was told: its rows were all read, or not; what is said of them is tested
abbrev pub EndsInfo : Option (List ℕ) → Outcome → Option (List ℕ) → Type 0
EndsInfo capture end now = EndsAs (λ told all. ReadsAll capture told) outcome_told end now

-- of a picture the judging of this text ended as `check` does with these words; it is told that nothing breaks only where that is a yes, and
-- where the words name a record that breaks nothing, nothing is said here
abbrev pub IsDrawnOf : Scope → Profile → List ℕ → Drawn → Type 0
IsDrawnOf scope profile text (APicture ending) = IsChecked scope profile (Some text) (Ok ending)
IsDrawnOf scope profile text (Nothing (NoBreakAt at)) = ⊤
IsDrawnOf scope profile text (Nothing why) = (ending : Ending) × IsChecked scope profile (Some text) (Ok ending) × ((outcome_made (Ok ending)).status ≡ 0)

-- a capture was kept whose text is this, where it is known, and what came of it
abbrev pub IsKept : Option (List ℕ) → (List ℕ → Type 0) → Type 0
IsKept capture Came = (text : List ℕ) × IfSome capture (λ known. text ≡ known) × Came text

-- a picture was to be drawn: the capture could not be read to its end, or something was drawn or not
abbrev pub IsDrawn : Scope → Profile → Option (List ℕ) → Outcome → Type 0
IsDrawn scope profile capture end =
    IsKept capture (λ text. (drawn : Drawn) × IsDrawnOf scope profile text drawn × (end ≡ outcome_drawn drawn))
    ⊎ (end ≡ record { status = 4; message = message.TextFault })

-- the same of a picture; what stands in it is tested
abbrev pub EndsDrawn : Scope → Job → Option (List ℕ) → Outcome → Type 0
EndsDrawn scope job capture end = (told : Result Outcome JudgeError) × IfOk told (IsDrawn scope job.profile capture) × (end ≡ outcome_kept told)

-- a page was to be made: the capture could not be read to its end, or the page was written, and its judging ended as `check --all` does
abbrev pub IsPaged : Scope → Profile → Option (List ℕ) → Outcome → Type 0
IsPaged scope profile capture end =
    IsKept capture (λ text. (ending : Ending) × IsChecked scope profile (Some text) (Ok ending) × (end ≡ outcome_made (Ok ending)))
    ⊎ (end ≡ record { status = 4; message = message.TextFault })

-- the same of a page; what stands on it is tested
abbrev pub EndsPaged : Scope → Job → Option (List ℕ) → Outcome → Type 0
EndsPaged scope job capture end = (told : Result Outcome JudgeError) × IfOk told (IsPaged scope job.profile capture) × (end ≡ outcome_kept told)

-- an export was to become a capture; that what was written can be read, stands where it is written
abbrev pub EndsConverted : Export → Outcome → Type 0
EndsConverted export end = (file : Option (String Global)) × (told : Result (Option Notice) ConvertFault) × (end ≡ outcome_converted export file told)

-- a capture was to be cut into parts: their names were to be written, or it ended early, whatever is said of what it left behind
abbrev pub EndsSplit : Outcome → Type 0
EndsSplit end = ((told : Result Unit JudgeError) × (end ≡ outcome_told told)) ⊎ ((file : Option (String Global)) × (fault : SplitFault) × (end.status ≡ (outcome_of_split file fault).status))

-- what is promised of each
abbrev pub makes : Promise
makes (Digest extent) job capture old end now = EndsMade (scope_for extent job) job capture end now
makes (Delays extent) job capture old end now = EndsMade (scope_for extent job) job capture end now
makes (Motion extent) job capture old end now = EndsMade (scope_for extent job) job capture end now
makes (Json view extent) job capture old end now = EndsMade (scope_for extent job) job capture end now
makes JsonRun job capture old end now = EndsJsonRun job capture end now
makes (Clock form) job capture old end now = EndsRewritten end
makes Info job capture old end now = EndsInfo capture end now
makes (Try extent) job capture old end now = EndsAs (TellsAnswers (scope_for extent job) job.profile capture old) outcome_kept end now
makes Touches job capture old end now = EndsMade (scope_for FirstBreak job) job capture end now
makes (Picture extent) job capture old end now = EndsDrawn (scope_for extent job) job capture end
makes Page job capture old end now = EndsPaged (scope_for WholeCapture job) job capture end
makes (Convert export) job capture old end now = EndsConverted export end
makes Split job capture old end now = EndsSplit end
