-- The answer to a text: a verdict on its records, or the fault for which it can't be read to its end. And what
-- a result of `judge` tells of it.
use Rattle.std.specs.Prelude.{◌≡◌, ◌≢◌, ⊤, ℕ, ◌+◌, ◌≤◌, IsTrue, List, Option, Some, None, Result, Ok, Err, IfSome, IfErr, if◌then◌else◌}
use Rattle.capture9.specs.declared.error.CaptureError.{CaptureError}
use Rattle.capture9.specs.declared.error.CaptureKind.TheVariants as kind
use Rattle.capture9.specs.declared.line_byte.LineByte.{LineByte}
use Rattle.capture9.specs.Capture.{IsStartOf}
use Rattle.capture9.specs.Error.{IsAfter, IsAtItsRow, is_of_text}
use Rattle.capture9.specs.Fields.{most_rows}
use Rattle.capture9.specs.Rows.{HasHeader, Rows, rows_of}
use Rattle.deck9.specs.declared.profile.Profile.{Profile}
use Rattle.report9.specs.declared.error.JudgeError.{JudgeError}
use Rattle.report9.specs.declared.error.JudgeError.TheVariants as error
use Rattle.report9.specs.declared.verdict.Verdict.{Verdict}
use Rattle.report9.specs.declared.verdict.Verdict.TheVariants as verdict
use Rattle.report9.specs.declared.verdict.Beginning.{Beginning}
use Rattle.judge9.specs.Beginning.{judged_from, judged_rows, passed_before}
use Rattle.judge9.specs.Verdict.{AreCounts, CanBeVerdict, IsFirstBreak, IsOk, counting}

-- a verdict, or the fault of the first bad row of a text that can't be read to its end
pub data Answer : Type 0 where
  judged : Verdict → Answer
  unreadable : CaptureError → Answer

-- the answer is right for these rows, before which so many records are passed over: yes where no row is bad and all the records
-- keep the rules, no where a record is the first that breaks one, by its number in the whole capture, and else the fault of the
-- first bad row, which needs that all the records before it keep the rules
abbrev pub IsAnswer : Profile → ℕ → Rows → Answer → Type 0
IsAnswer profile past rows (judged (verdict.Yes records exchanges tail)) =
    (rows.fault ≡ None) × AreCounts (counting profile) rows.records records exchanges tail
IsAnswer profile past rows (judged (verdict.No at reason)) = IsFirstBreak (counting profile) past rows.records at reason
IsAnswer profile past rows (unreadable e) = (rows.fault ≡ Some e) × IsOk (counting profile) rows.records

-- the answer is right for a text with these rows that is judged from this beginning on: it is that of the rows that are judged
abbrev pub IsAnswerFrom : Beginning → Profile → Rows → Answer → Type 0
IsAnswerFrom beginning profile rows answer = IsAnswer profile (passed_before beginning rows) (judged_rows beginning rows) answer

-- it is right, and no other one is
pub record IsTheAnswer (beginning : Beginning) (profile : Profile) (rows : Rows) (answer : Answer) : Type 0 where
  pub is_answer : IsAnswerFrom beginning profile rows answer
  pub only : (other : Answer) → IsAnswerFrom beginning profile rows other → other ≡ answer

-- the answer that a result of `judge` tells: none where the reader, the writer or the memory failed
abbrev pub answer_of : Result Verdict JudgeError → Option Answer
answer_of (Ok v) = Some (judged v)
answer_of (Err (error.Capture e)) = if is_of_text e.kind then Some (unreadable e) else None
answer_of (Err error.Write) = None
answer_of (Err error.OutOfMemory) = None

-- all the records before the row of this refusal that are judged keep the rules; before row 0, the header, there are none, and
-- after it the text has its header
pub record IsOkBefore (beginning : Beginning) (profile : Profile) (rows : Rows) (e : CaptureError) : Type 0 where
  pub items : List LineByte
  pub start : IsStartOf items rows.records
  pub place : IsAfter most_rows items e
  pub has_header : e.row ≢ 0 → HasHeader rows
  pub is_ok : IsOk (counting profile) (judged_from beginning items).records

-- where the reader failed at a row, all the records before it that are judged keep the rules
abbrev pub StoppedBefore : Beginning → Profile → Rows → JudgeError → Type 0
StoppedBefore beginning profile rows (error.Capture e) = e.kind ≡ kind.Read → IsOkBefore beginning profile rows e
StoppedBefore beginning profile rows error.Write = ⊤
StoppedBefore beginning profile rows error.OutOfMemory = ⊤

-- a row that a refusal of a capture can name
pub record CanBeRefusal (e : CaptureError) : Type 0 where
  pub few : e.row ≤ most_rows + 1
  pub at_its_row : IsTrue (is_of_text e.kind) → IsAtItsRow most_rows e

-- a result that some reader brings, whether or not it tells its bytes
abbrev pub CanBeResult : Result Verdict JudgeError → Type 0
CanBeResult (Ok v) = CanBeVerdict v
CanBeResult (Err (error.Capture e)) = CanBeRefusal e
CanBeResult (Err error.Write) = ⊤
CanBeResult (Err error.OutOfMemory) = ⊤

-- ---- what every judging up to the first break promises of its verdict

-- of a capture whose text is given where it is known: a verdict or a fault of the text is the one right answer; where the reader
-- failed, all records before keep the rules; a refusal is never told as a fault of the capture where memory ran out; and the result
-- is one that some capture has
pub record Answers (beginning : Beginning) (profile : Profile) (text : Option (List ℕ)) (result : Result Verdict JudgeError) : Type 0 where
  pub answer : IfSome text (λ t. IfSome (answer_of result) (IsTheAnswer beginning profile (rows_of t)))
  pub stopped : IfSome text (λ t. IfErr result (StoppedBefore beginning profile (rows_of t)))
  pub is_kind : (e : CaptureError) → result ≡ Err (error.Capture e) → e.kind ≢ kind.OutOfMemory
  pub can_be : CanBeResult result
