-- How the program ends after something was made: its status, and what it says on standard error.
use Rattle.std.specs.Prelude.{◌==◌, if◌then◌else◌, ℕ, None, Option, Some, Result, Ok, Err, String}
use Rattle.std.specs.Global.{Global}
use Rattle.convert9.specs.declared.fault.ConvertFault.{ConvertFault}
use Rattle.convert9.specs.declared.fault.ConvertFault.TheVariants as convert
use Rattle.convert9.specs.declared.fault.Refusal.{Refusal}
use Rattle.convert9.specs.declared.fault.Wrong.{Wrong}
use Rattle.convert9.specs.declared.fault.Wrong.TheVariants as wrong
use Rattle.convert9.specs.declared.log.times.Notice.{Notice}
use Rattle.convert9.specs.declared.log.times.Notice.TheVariants as notice
use Rattle.convert9.specs.declared.split.SplitFault.{SplitFault}
use Rattle.convert9.specs.declared.split.SplitFault.TheVariants as split
use Rattle.report9.specs.declared.error.JudgeError.{JudgeError}
use Rattle.seen9.specs.declared.drawn.Drawn.{Drawn}
use Rattle.seen9.specs.declared.drawn.Drawn.TheVariants as drawn
use Rattle.seen9.specs.declared.drawn.WhyNothing.{WhyNothing}
use Rattle.seen9.specs.declared.drawn.WhyNothing.TheVariants as nothing
use Rattle.seen9.specs.declared.seen.Ending.{Ending}
use Rattle.seen9.specs.declared.seen.Ending.TheVariants as ending
use Rattle.view9.specs.declared.clock.ClockFault.{ClockFault}
use Rattle.view9.specs.declared.clock.ClockFault.TheVariants as fault
use Rattle.words9.specs.declared.task.Export.{Export}
use Rattle.program9.specs.declared.ending.Message.TheVariants as message
use Rattle.program9.specs.declared.ending.Notice.{Notice as Said}
use Rattle.program9.specs.declared.ending.Notice.TheVariants as said
use Rattle.program9.specs.declared.ending.Outcome.{Outcome}
use Rattle.program9.specs.declared.ending.Refuser.{Refuser}
use Rattle.program9.specs.declared.ending.Refuser.TheVariants as by
use Rattle.program9.specs.Outcome.{capture_outcome, outcome_in_parts, outcome_of, outcome_refused}

-- after a view was made of a judging, the end is that of its verdict or of its totals
abbrev pub outcome_made : Result Ending JudgeError → Outcome
outcome_made (Ok (ending.Verdict verdict)) = outcome_of (Ok verdict)
outcome_made (Ok (ending.Totals totals)) = outcome_in_parts (Ok totals)
outcome_made (Err e) = outcome_refused e

-- after the times of a text were rewritten: the status is 0, 4 where it can't be read or written, and 5 where memory ran out
abbrev pub outcome_rewritten : Result Unit ClockFault → Outcome
outcome_rewritten (Ok told) = record { status = 0; message = message.Nothing }
outcome_rewritten (Err fault.Read) = record { status = 4; message = message.TextFault }
outcome_rewritten (Err fault.Write) = record { status = 4; message = message.WriteFault }
outcome_rewritten (Err fault.OutOfMemory) = record { status = 5; message = message.NoMemory }

-- after what a capture says of itself was told: the status is 0; after a refusal the end is the same as that of any judging
abbrev pub outcome_told : Result Unit JudgeError → Outcome
outcome_told (Ok told) = record { status = 0; message = message.Nothing }
outcome_told (Err e) = outcome_refused e

-- where there is nothing to draw the status is 0, since nothing breaks, or 2 where the words name a record that breaks nothing
abbrev pub status_of_nothing : WhyNothing → ℕ
status_of_nothing (nothing.NoBreakAt at) = 2
status_of_nothing _ = 0

-- after a picture was drawn the end is that of the judging; where there is nothing to draw, that is said
abbrev pub outcome_drawn : Drawn → Outcome
outcome_drawn (drawn.Picture end) = outcome_made (Ok end)
outcome_drawn (drawn.Nothing why) = record { status = status_of_nothing why; message = message.NothingToDraw why }

-- of what a capture is kept for: the end is the one that this came to; after a refusal it is that of any judging
abbrev pub outcome_kept : Result Outcome JudgeError → Outcome
outcome_kept (Ok end) = end
outcome_kept (Err e) = outcome_refused e

-- the status after a refusal: 2 where the words are wrong, 3 where the export or the capture is, 4 where a part can't be written
abbrev pub status_of_wrong : Wrong → ℕ
status_of_wrong wrong.Words = 2
status_of_wrong wrong.Export = 3
status_of_wrong wrong.Part = 4

-- the file that is told where something was refused in this line of it: none where the words alone are at fault
abbrev pub file_told : Wrong → ℕ → Option (String Global) → Option (String Global)
file_told wrong.Words line file = if (line == 0) then None else file
file_told _ line file = file

-- the end after this word refused something of this file
abbrev pub outcome_refused_by : Refuser → Option (String Global) → Refusal → Outcome
outcome_refused_by by file refusal =
    record {
      status = status_of_wrong refusal.wrong;
      message = message.Refused (record { by = by; file = file_told refusal.wrong refusal.line file; line = refusal.line; text = refusal.text });
    }

-- what is said of the times of a log
abbrev pub said_of : Notice → Said
said_of notice.WholeNumbers = said.WholeNumbers
said_of notice.Coarse = said.Coarse

-- after an export was to become a capture: the status is 0, and maybe there is a notice; else it is told what was wrong, and in which file
abbrev pub outcome_converted : Export → Option (String Global) → Result (Option Notice) ConvertFault → Outcome
outcome_converted export file (Ok None) = record { status = 0; message = message.Nothing }
outcome_converted export file (Ok (Some notice)) = record { status = 0; message = message.Notice (said_of notice) }
outcome_converted export file (Err (convert.Refused refusal)) = outcome_refused_by (by.Convert export) file refusal
outcome_converted export file (Err convert.Read) = record { status = 4; message = message.TextFault }
outcome_converted export file (Err convert.Write) = record { status = 4; message = message.WriteFault }
outcome_converted export file (Err convert.OutOfMemory) = record { status = 5; message = message.NoMemory }

-- after a split of this file that ended early so, whatever it left behind
abbrev pub outcome_of_split : Option (String Global) → SplitFault → Outcome
outcome_of_split file (split.Refused refusal) = outcome_refused_by by.Split file refusal
outcome_of_split file (split.Capture e) = capture_outcome e.kind e
outcome_of_split file split.OutOfMemory = record { status = 5; message = message.NoMemory }
