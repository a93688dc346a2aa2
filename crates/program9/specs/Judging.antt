-- How a judging ends whose report goes through a buffer.
use Rattle.std.specs.Prelude.{◌≡◌, ◌≢◌, ◌⊎◌, ⊤, ℕ, List, Option, Result, Ok, Err, IfSome, option_map}
use Rattle.std.specs.Io.KnownBytes.{Appends, Keeps}
use Rattle.capture9.specs.declared.error.CaptureError.{CaptureError}
use Rattle.capture9.specs.declared.error.CaptureKind.TheVariants as kind
use Rattle.capture9.specs.Fields.{greatest_limit}
use Rattle.capture9.specs.Rows.{HasHeader, Rows, rows_of, rows_within}
use Rattle.deck9.specs.declared.profile.Profile.{Profile}
use Rattle.report9.specs.declared.error.JudgeError.{JudgeError}
use Rattle.report9.specs.declared.error.JudgeError.TheVariants as error
use Rattle.report9.specs.declared.run_verdict.RunVerdict.{RunVerdict}
use Rattle.report9.specs.declared.totals.Totals.{Totals}
use Rattle.report9.specs.declared.verdict.Beginning.{Beginning}
use Rattle.report9.specs.declared.verdict.Extent.TheVariants.{FirstBreak, WholeCapture}
use Rattle.report9.specs.declared.verdict.Verdict.{Verdict}
use Rattle.report9.specs.declared.verdict.View.{View}
use Rattle.report9.specs.declared.verdict.View.TheVariants as view
use Rattle.report9.specs.Writing.{AppendsPart}
use Rattle.report9.specs.RunText.{text_of_run}
use Rattle.judge9.specs.Judging.{Answers}
use Rattle.judge9.specs.Report.{Told, by_totals, by_verdict}
use Rattle.judge9.specs.RunVerdict.{IsJudgedRun, verdict_of}
use Rattle.words9.specs.declared.task.Report.{Report}
use Rattle.words9.specs.declared.task.Made.{Made as AMade}
use Rattle.words9.specs.declared.task.Report.TheVariants.{Made, Parts, Run, ToBreak}
use Rattle.program9.specs.declared.ending.Message.{Message}
use Rattle.program9.specs.declared.ending.Message.TheVariants as message
use Rattle.program9.specs.declared.ending.Outcome.{Outcome}
use Rattle.program9.specs.declared.judging.Job.{Job}
use Rattle.program9.specs.Outcome.{outcome_in_parts, outcome_of}
use Rattle.program9.specs.Output.{IsFirstPart}

-- of a judging that answered `judged`, after which the writer was to hold `all`: the result is that answer, and
-- the writer holds all of it; or the result is a write fault, and the writer holds a first part
abbrev pub HandsOn : {A : Type 0} → Result A JudgeError → Option (List ℕ) → Result A JudgeError → Option (List ℕ) → Type 0
HandsOn judged all result now = ((result ≡ judged) × Keeps all now) ⊎ ((result ≡ Err error.Write) × IsFirstPart now all)

-- what writing the text of a run answers: where there is none the refusal, and nothing was written; else the verdict, and
-- the text was written, or a write fault, and a first part of it was
abbrev pub WritesRun : Profile → Result RunVerdict JudgeError → Result Verdict JudgeError → Option (List ℕ) → Option (List ℕ) → Type 0
WritesRun profile (Err e) result old new = (result ≡ Err e) × Keeps old new
WritesRun profile (Ok run) result old new =
    ((result ≡ Ok (verdict_of run)) × Appends old new (text_of_run profile run)) ⊎ ((result ≡ Err error.Write) × AppendsPart old new (text_of_run profile run))

-- a judging with a run, of these rows where they are known, and the writing of its text
abbrev pub TellsRun : Beginning → Profile → Option Rows → Option (List ℕ) → Result Verdict JudgeError → Option (List ℕ) → Type 0
TellsRun beginning profile known old judged all = (found : Result RunVerdict JudgeError) × IsJudgedRun beginning profile known found × WritesRun profile found judged old all

-- a capture, whose text is given where it is known, was judged to its first break, with what the job asks for and for its deck, and
-- told by this view: the result, and what the writer holds before and after
abbrev pub IsJudged : View → Job → Option (List ℕ) → Option (List ℕ) → Result Verdict JudgeError → Option (List ℕ) → Type 0
IsJudged view job capture old result now =
    Answers job.asked.beginning job.profile capture result
    × Told view (record { extent = FirstBreak; beginning = job.asked.beginning }) job.profile (option_map rows_of capture) (by_verdict result) old now

-- the same with a run, whose text was written
abbrev pub IsJudgedWithRun : Job → Option (List ℕ) → Option (List ℕ) → Result Verdict JudgeError → Option (List ℕ) → Type 0
IsJudgedWithRun job capture old result now =
    Answers job.asked.beginning job.profile capture result × TellsRun job.asked.beginning job.profile (option_map rows_of capture) old result now

-- the same of a capture that was judged part by part, and of each part told by this view
pub record IsJudgedInParts (view : View) (job : Job) (capture old : Option (List ℕ)) (result : Result Totals JudgeError) (now : Option (List ℕ)) : Type 0 where
  pub told :
      Told view (record { extent = WholeCapture; beginning = job.asked.beginning }) job.profile (option_map (rows_within greatest_limit) capture) (by_totals result)
      old now
  pub kind : (e : CaptureError) → result ≡ Err (error.Capture e) → e.kind ≢ kind.OutOfMemory
  pub header : IfSome capture (λ text. (e : CaptureError) → result ≡ Err (error.Capture e) → e.row ≢ 0 → HasHeader (rows_within greatest_limit text))

-- some judging of this kind was handed on, and this is the end: that of the result, by this table; and the writer holds this now
pub record EndsAs {A : Type 0} (Kind : Result A JudgeError → Option (List ℕ) → Type 0) (outcome : Result A JudgeError → Outcome) (end : Outcome) (now : Option (List ℕ)) : Type 0 where
  pub judged : Result A JudgeError
  pub all : Option (List ℕ)
  pub is_judged : Kind judged all
  pub result : Result A JudgeError
  pub hands_on : HandsOn judged all result now
  pub is_end : end ≡ outcome result

-- what may be said of what to ask next, or of what to look at besides. What that is is tested
abbrev pub IsHint : Message → Type 0
IsHint message.Nothing = ⊤
IsHint (message.Lines lines) = ⊤
IsHint _ = ⊥

-- a judging whose end is `plain` was told by this view, and the program ends so: as `plain` says. But below a `why` that is a no and says
-- nothing, lines may be said of what to ask next. What they say is tested
abbrev pub IsHinted : View → Outcome → Outcome → Type 0
IsHinted view.Why plain end =
    (end ≡ plain) ⊎ ((plain ≡ record { status = 1; message = message.Nothing }) × (said : Message) × IsHint said × (end ≡ record { status = 1; message = said }))
IsHinted _ plain end = end ≡ plain

-- what a maker promises of what it makes: of this, for this job, of a capture or an export whose text is given where it is known, before a
-- writer that holds this; how it ends, and what the writer holds then
abbrev pub Promise : Type 1
Promise = AMade → Job → Option (List ℕ) → Option (List ℕ) → Outcome → Option (List ℕ) → Type 0

-- a capture was judged and told by this report, or this was made of it as its maker promises, and this is the end
abbrev pub EndsJudged : Promise → Report → Job → Option (List ℕ) → Option (List ℕ) → Outcome → Option (List ℕ) → Type 0
EndsJudged makes Run job capture old end now = EndsAs (IsJudgedWithRun job capture old) outcome_of end now
EndsJudged makes (ToBreak view) job capture old end now = (plain : Outcome) × EndsAs (IsJudged view job capture old) outcome_of plain now × IsHinted view plain end
EndsJudged makes (Parts view) job capture old end now =
    (plain : Outcome) × EndsAs (IsJudgedInParts view job capture old) outcome_in_parts plain now × IsHinted view plain end
EndsJudged makes (Made made) job capture old end now = makes made job capture old end now
