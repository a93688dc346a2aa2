-- How the program ends: its status, and what it says on standard error.
use Rattle.std.specs.Prelude.{◌==◌, if◌then◌else◌, Option, Some, Result, Ok, Err}
use Rattle.std.specs.declared.io.ErrorKind.{ErrorKind}
use Rattle.std.specs.declared.io.ErrorKind.TheVariants.{BrokenPipe}
use Rattle.capture9.specs.declared.error.CaptureError.{CaptureError}
use Rattle.capture9.specs.declared.error.CaptureKind.{CaptureKind}
use Rattle.capture9.specs.declared.error.CaptureKind.TheVariants as kind
use Rattle.report9.specs.declared.error.JudgeError.{JudgeError}
use Rattle.report9.specs.declared.error.JudgeError.TheVariants as error
use Rattle.report9.specs.declared.totals.Totals.{Totals}
use Rattle.report9.specs.declared.verdict.Verdict.{Verdict}
use Rattle.report9.specs.declared.verdict.Verdict.TheVariants as verdict
use Rattle.program9.specs.declared.ending.Message.{Message}
use Rattle.program9.specs.declared.ending.Message.TheVariants as message
use Rattle.program9.specs.declared.ending.Outcome.{Outcome}

-- the end after a refusal of the capture, by its kind: a bad row, a reader that failed, or memory ran out
abbrev pub capture_outcome : CaptureKind → CaptureError → Outcome
capture_outcome kind.Header e = record { status = 3; message = message.Unreadable e }
capture_outcome kind.Fields e = record { status = 3; message = message.Unreadable e }
capture_outcome kind.Time e = record { status = 3; message = message.Unreadable e }
capture_outcome kind.Wire e = record { status = 3; message = message.Unreadable e }
capture_outcome kind.Byte e = record { status = 3; message = message.Unreadable e }
capture_outcome kind.Backwards e = record { status = 3; message = message.Unreadable e }
capture_outcome kind.TooMany e = record { status = 3; message = message.Unreadable e }
capture_outcome kind.Read e = record { status = 4; message = message.ReadFault e.row }
capture_outcome kind.OutOfMemory e = record { status = 5; message = message.NoMemory }

-- the end after a refusal: of the capture, or the writer failed, or memory ran out
abbrev pub outcome_refused : JudgeError → Outcome
outcome_refused (error.Capture e) = capture_outcome e.kind e
outcome_refused error.Write = record { status = 4; message = message.WriteFault }
outcome_refused error.OutOfMemory = record { status = 5; message = message.NoMemory }

-- the status is 0 for yes, 1 for no, 3 for a bad row, 4 for a reader or a writer that failed, 5 where memory ran out; only
-- a verdict has no message
abbrev pub outcome_of : Result Verdict JudgeError → Outcome
outcome_of (Ok (verdict.Yes records exchanges tail)) = record { status = 0; message = message.Nothing }
outcome_of (Ok (verdict.No at reason)) = record { status = 1; message = message.Nothing }
outcome_of (Err e) = outcome_refused e

-- of a judging part by part: the status is 0 where no part breaks, 1 where one does, and there is no message; after a
-- refusal the end is the same as that of any judging
abbrev pub outcome_in_parts : Result Totals JudgeError → Outcome
outcome_in_parts (Ok totals) = record { status = (if (totals.breaks == 0) then 0 else 1); message = message.Nothing }
outcome_in_parts (Err e) = outcome_refused e

-- what is said, but of a write fault nothing
abbrev pub unless_write_fault : Message → Message
unless_write_fault message.WriteFault = message.Nothing
unless_write_fault said = said

-- the same end, which says nothing of a write fault
abbrev pub without_write_fault : Outcome → Outcome
without_write_fault end = record end { message = unless_write_fault end.message }

-- the end after this one of a judging, where a write or a flush may have failed so: of a write fault nothing is said where the reader
-- of a pipe is gone, and all is said else
abbrev pub told_after : Option ErrorKind → Outcome → Outcome
told_after (Some BrokenPipe) end = without_write_fault end
told_after failed end = end
