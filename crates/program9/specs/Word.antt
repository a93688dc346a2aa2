-- The words for what is wrong, for what was expected, and for why a file was not opened.
use Rattle.std.specs.Prelude.{ℕ, ◌+◌, ◌==◌, if◌then◌else◌, List, [], ◌∷◌, Option, Some, None, String, codes}
use Rattle.std.specs.Global.{Global}
use Rattle.std.specs.String.{string_bytes}
use Rattle.capture9.specs.Fields.{most_rows}
use Rattle.capture9.specs.declared.error.CaptureKind.{CaptureKind}
use Rattle.capture9.specs.declared.error.CaptureKind.TheVariants as kind
use Rattle.words9.specs.declared.task.Export.TheVariants as export
use Rattle.program9.specs.declared.ending.Notice.{Notice}
use Rattle.program9.specs.declared.ending.Notice.TheVariants as notice
use Rattle.program9.specs.declared.ending.Refuser.{Refuser}
use Rattle.program9.specs.declared.ending.Refuser.TheVariants as by
use Rattle.program9.specs.declared.ending.WhyUnopened.{WhyUnopened}
use Rattle.program9.specs.declared.ending.WhyUnopened.TheVariants as why

-- the word or two for a kind of fault
abbrev pub word_of : CaptureKind → List ℕ
word_of kind.Header = codes "header"
word_of kind.Fields = codes "fields"
word_of kind.Time = codes "time"
word_of kind.Wire = codes "wire"
word_of kind.Byte = codes "byte"
word_of kind.Backwards = codes "backwards"
word_of kind.TooMany = codes "too many rows"
word_of kind.Read = codes "read fault"
word_of kind.OutOfMemory = codes "out of memory"

-- what was expected where there is this fault at this row; of a row too many, its number tells which limit held
abbrev pub expected_of : CaptureKind → ℕ → List ℕ
expected_of kind.Header row = codes "expected the header time_us,wire,byte"
expected_of kind.Fields row = codes "expected three fields: time_us,wire,byte"
expected_of kind.Time row = codes "expected 1 to 15 decimal digits, the time in microseconds"
expected_of kind.Wire row = codes "expected C for the controller's wire, or D for the deck's"
expected_of kind.Byte row = codes "expected two hexadecimal digits"
expected_of kind.Backwards row = codes "expected a time no earlier than that of the row before"
expected_of kind.TooMany row =
    if row == most_rows + 1 then codes "expected at most 4000000 rows; --all judges a longer capture" else codes "expected at most 4294967294 rows"
expected_of kind.Read row = codes "expected a capture that can be read to its end"
expected_of kind.OutOfMemory row = codes "expected a row that ends"

-- the first line where a file was not opened: a directory is told as its first read would be
abbrev pub first_line_of : WhyUnopened → List ℕ
first_line_of why.IsADirectory = codes "read fault at row 0"
first_line_of _ = codes "cannot open"

-- a word that refuses something
abbrev pub refuser_word : Refuser → List ℕ
refuser_word (by.Convert export.Sigrok) = codes "convert sigrok"
refuser_word (by.Convert export.Saleae) = codes "convert saleae"
refuser_word (by.Convert export.Log) = codes "convert log"
refuser_word by.Split = codes "split"

-- what there is to say of the times of a log
abbrev pub notice_text : Notice → List ℕ
notice_text notice.WholeNumbers = codes "all times are whole numbers, and were read as seconds; --unit ms or --unit us reads a counter"
notice_text notice.Coarse = codes "timestamps are coarser than 100 microseconds, so L1, L2 and B3 mean little"

-- what to do where a capture that was not opened is called `-`
abbrev pub dash_text : List ℕ → List ℕ
dash_text (only ∷ []) = if only == 0x2D then codes "; leave it out to read standard input" else []
dash_text _ = []

abbrev pub dash_hint : Option (String Global) → List ℕ
dash_hint (Some name) = dash_text (string_bytes name)
dash_hint None = []

-- what a file is called
abbrev pub file_name_of : Option (String Global) → List ℕ
file_name_of (Some name) = string_bytes name
file_name_of None = codes "standard input"

-- why it was not opened, as the system's own tools say it
abbrev pub reason_of : WhyUnopened → List ℕ
reason_of why.NotFound = codes "No such file or directory"
reason_of why.PermissionDenied = codes "Permission denied"
reason_of why.IsADirectory = codes "Is a directory"
reason_of why.NotADirectory = codes "Not a directory"
reason_of why.FilesystemLoop = codes "Too many levels of symbolic links"
reason_of why.Other = codes "The system cannot open it"
