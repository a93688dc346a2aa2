-- The text of a capture's error.
use Rattle.std.specs.Prelude.{ℕ, List, ◌++◌, codes}
use Rattle.std.specs.Fmt.{decimal}
use Rattle.capture9.specs.declared.error.CaptureError.{CaptureError}
use Rattle.capture9.specs.declared.error.CaptureKind.{CaptureKind}
use Rattle.capture9.specs.declared.error.CaptureKind.TheVariants as kind

-- what is wrong, in words, at the row with this number
abbrev pub words_of : CaptureKind → List ℕ → List ℕ
words_of kind.Header number = codes "the header is not time_us,wire,byte"
words_of kind.Fields number = codes "row " ++ number ++ codes " has another number of fields than three"
words_of kind.Time number = codes "the time of row " ++ number ++ codes " is not 1 to 15 decimal digits"
words_of kind.Wire number = codes "the wire of row " ++ number ++ codes " is neither C nor D"
words_of kind.Byte number = codes "the byte of row " ++ number ++ codes " is not two hexadecimal digits"
words_of kind.Backwards number = codes "the time of row " ++ number ++ codes " is below that of the row before"
words_of kind.TooMany number = codes "row " ++ number ++ codes " is more than a capture may have"
words_of kind.Read number = codes "the reader failed at row " ++ number
words_of kind.OutOfMemory number = codes "out of memory at row " ++ number

abbrev pub text_of : CaptureError → List ℕ
text_of e = words_of e.kind (decimal e.row)
