-- What a result of a judging with a run tells: a verdict, and where it is a yes a run of the deck.
use Rattle.std.specs.Prelude.{◌≡◌, ⊤, List, length, Option, Result, Ok, Err}
use Rattle.std.specs.Option.{IfNone, IfSome}
use Rattle.std.specs.Result.{IfOk}
use Rattle.capture9.specs.declared.line_byte.LineByte.{LineByte}
use Rattle.capture9.specs.Fields.{most_rows}
use Rattle.capture9.specs.Rows.{Rows}
use Rattle.capture9.specs.SomeText.{IsOfSomeText}
use Rattle.block9.specs.Exchange.{Cut}
use Rattle.deck9.specs.declared.profile.Profile.{Profile}
use Rattle.report9.specs.declared.error.JudgeError.{JudgeError}
use Rattle.report9.specs.declared.run_verdict.RunVerdict.{RunVerdict}
use Rattle.report9.specs.declared.run_verdict.RunVerdict.TheVariants as run
use Rattle.report9.specs.declared.verdict.Verdict.{Verdict}
use Rattle.report9.specs.declared.verdict.Verdict.TheVariants as verdict
use Rattle.report9.specs.declared.verdict.Beginning.{Beginning}
use Rattle.judge9.specs.Beginning.{judged_rows, passed_before}
use Rattle.judge9.specs.Judging.{IsTheAnswer, answer_of}
use Rattle.judge9.specs.Verdict.{counting, line_rules}
use Rattle.deck9.specs.Run.{IsRun}

-- the verdict alone, with the number of the exchanges
abbrev pub verdict_of : RunVerdict → Verdict
verdict_of (run.Yes past records tail exchanges states) = verdict.Yes records (length exchanges.items) tail
verdict_of (run.No at reason) = verdict.No at reason

-- the result of a judging without the run
abbrev pub judged_of : Result RunVerdict JudgeError → Result Verdict JudgeError
judged_of (Ok v) = Ok (verdict_of v)
judged_of (Err e) = Err e

-- on a yes so many records were passed over, the exchanges are those that the judged records are cut into, and the states are
-- those after each of them in some run of the deck
abbrev pub HasItsRun : Beginning → Profile → Rows → RunVerdict → Type 0
HasItsRun beginning profile rows (run.Yes past records tail exchanges states) =
    (past ≡ passed_before beginning rows) × ((left : List LineByte) × Cut (line_rules (counting profile)) (judged_rows beginning rows).records exchanges.items left)
    × IsRun profile exchanges.items states.items
HasItsRun beginning profile rows (run.No at reason) = ⊤

-- the rows that a judging speaks of, with its answer for them and its run. The rows are those of the text, where the
-- reader tells its bytes; else they are what it gave, and are those of some text
pub record IsJudgedRun (beginning : Beginning) (profile : Profile) (known : Option Rows) (result : Result RunVerdict JudgeError) : Type 0 where
  pub rows : Rows
  pub is_known : IfSome known (λ all. rows ≡ all)
  pub of_a_text : IfNone known (IsOfSomeText most_rows rows)
  pub answer : IfSome (answer_of (judged_of result)) (IsTheAnswer beginning profile rows)
  pub run : IfOk result (HasItsRun beginning profile rows)
