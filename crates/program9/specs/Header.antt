-- What is said of a capture that can't be read: its file, and where its header is none, what stands there.
use Rattle.std.specs.Prelude.{ℕ, List, ◌++◌, Option, Some, None, String, codes}
use Rattle.std.specs.Global.{Global}
use Rattle.capture9.specs.Shown.{shown_text}
use Rattle.capture9.specs.declared.error.CaptureError.{CaptureError}
use Rattle.capture9.specs.declared.error.CaptureKind.{CaptureKind}
use Rattle.capture9.specs.declared.error.CaptureKind.TheVariants as kind
use Rattle.program9.specs.declared.ending.Message.{Message}
use Rattle.program9.specs.declared.ending.Message.TheVariants as message
use Rattle.program9.specs.declared.ending.Outcome.{Outcome}
use Rattle.program9.specs.declared.no_header.FoundHeader.{FoundHeader}
use Rattle.program9.specs.declared.no_header.LooksLike.{LooksLike}
use Rattle.program9.specs.declared.no_header.LooksLike.TheVariants as looks

-- what to do about it, by what the capture looks like
abbrev pub hint_of : LooksLike → List ℕ
hint_of looks.Empty = codes "; there is no text in it"
hint_of looks.Rows = codes ", which is a row: put the header before it"
hint_of looks.Columns = codes "; write these three columns alone, in this order, in small letters and without blanks"
hint_of looks.Semicolons = codes ", with semicolons where a capture has commas: save it with commas"
hint_of looks.Tabs = codes ", with tabs where a capture has commas: save it with commas"
hint_of looks.Utf16 = codes ", in UTF-16: save it as UTF-8"
hint_of looks.Gzip = codes ", packed by gzip: unpack it, with gunzip"
hint_of looks.Zip = codes ", packed by zip: unpack it, save a workbook (.xlsx) as CSV, or export a recording (.sr, .sal), see docs/CAPTURE.md"
hint_of looks.Json = codes ", as JSON has: save it as CSV"
hint_of looks.Markup = codes ", as HTML or XML has: save it as CSV"
hint_of looks.Saleae = codes ", as a Saleae export has: ninecheck convert saleae makes a capture of it"
hint_of looks.Sigrok = codes ", as sigrok-cli prints: ninecheck convert sigrok makes a capture of it"
hint_of looks.SerialLog = codes ", as a serial log has: ninecheck convert log makes a capture of it"
hint_of looks.LateMark = codes ", with a byte order mark that is not at the beginning of the file: take it out"
hint_of looks.Other = codes "; ninecheck convert makes captures of exports, see docs/CAPTURE.md"

-- what stands in the place of the header, and what to do about it
abbrev pub header_found : FoundHeader → List ℕ
header_found found = shown_text found.line ++ hint_of found.looks

-- a refusal of this kind, told with the file where the words name one, and where the header is at fault with what stands in its place
abbrev pub kind_told : CaptureKind → Option (String Global) → FoundHeader → CaptureError → Message
kind_told kind.Header file found e = message.NoHeader (record { file = file; found = found })
kind_told _ (Some file) found e = message.BadRow (record { file = file; fault = e })
kind_told _ None found e = message.Unreadable e

abbrev pub fault_told : Option (String Global) → FoundHeader → CaptureError → Message
fault_told file found e = kind_told e.kind file found e

-- the same of whatever is said
abbrev pub told_in : Option (String Global) → FoundHeader → Message → Message
told_in file found (message.Unreadable e) = fault_told file found e
told_in (Some file) found (message.ReadFault row) = message.CannotRead (record { file = file; row = row })
told_in file found said = said

-- the same end, told so
abbrev pub with_file : Option (String Global) → FoundHeader → Outcome → Outcome
with_file file found end = record end { message = told_in file found end.message }
