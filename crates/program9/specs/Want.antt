-- What is said where memory was refused: what the word keeps, which may be too large.
use Rattle.std.specs.Prelude.{ℕ, Bool, true, false, List, Option, Some, None, codes}
use Rattle.report9.specs.declared.verdict.View.TheVariants as view
use Rattle.words9.specs.declared.task.Made.{Made as AMade}
use Rattle.words9.specs.declared.task.Made.TheVariants.{Clock, Convert, Json, JsonRun, Page, Picture, Touches, Try}
use Rattle.words9.specs.declared.task.Report.{Report}
use Rattle.words9.specs.declared.task.Report.TheVariants.{Made, Parts, Run, ToBreak}
use Rattle.program9.specs.declared.ending.Message.{Message}
use Rattle.program9.specs.declared.ending.Message.TheVariants as message
use Rattle.program9.specs.declared.ending.Outcome.{Outcome}
use Rattle.program9.specs.declared.want.Kept.{Kept}
use Rattle.program9.specs.declared.want.Kept.TheVariants as kept

-- what is kept for what is made beside the reports, where a log is converted live or not; nothing where a row is kept at a time
abbrev pub kept_for : AMade → Bool → Option Kept
kept_for JsonRun live = Some kept.Exchanges
kept_for (Json view.Why extent) live = Some kept.Exchanges
kept_for Touches live = Some kept.Exchanges
kept_for (Try extent) live = Some kept.Capture
kept_for (Picture extent) live = Some kept.Capture
kept_for Page live = Some kept.Capture
kept_for (Convert export) false = Some kept.Export
kept_for (Convert export) true = Some kept.Line
kept_for (Clock form) live = Some kept.Line
kept_for made live = None

-- the same of each report
abbrev pub kept_by : Report → Bool → Option Kept
kept_by Run live = Some kept.Exchanges
kept_by (ToBreak view.Why) live = Some kept.Exchanges
kept_by (Parts view.Why) live = Some kept.Exchanges
kept_by (Made made) live = kept_for made live
kept_by report live = None

-- what is said where memory was refused to a word that keeps this
abbrev pub lack_of : Option Kept → Message
lack_of (Some kept) = message.TooLarge kept
lack_of None = message.NoMemory

-- the same of whatever is said
abbrev pub want_told : Option Kept → Message → Message
want_told kept message.NoMemory = lack_of kept
want_told kept said = said

-- the same end, told so
abbrev pub with_want : Option Kept → Outcome → Outcome
with_want kept end = record end { message = want_told kept end.message }

-- what may be too large, and what to do about it
abbrev pub advice_of : Kept → List ℕ
advice_of kept.Exchanges = codes "the exchanges are kept, and may be too many, or a row may never end: ninecheck split cuts a capture, or see ulimit -v"
advice_of kept.Capture = codes "the whole capture is kept, and may be too large: ninecheck split cuts it, or see ulimit -v"
advice_of kept.Export = codes "every byte of the export is kept, and it may be too large: convert a part with --from and --to, or see ulimit -v"
advice_of kept.Line = codes "a line may never end, or memory is short: see ulimit -v"
