-- The text of what is said on standard error.
use Rattle.std.specs.Prelude.{◌==◌, if◌then◌else◌, ℕ, List, [], ◌++◌, Option, Some, None, String, codes}
use Rattle.std.specs.Fmt.{decimal}
use Rattle.std.specs.Global.{Global}
use Rattle.std.specs.String.{string_bytes}
use Rattle.capture9.specs.Shown.{shown_text}
use Rattle.capture9.specs.declared.shown_field.ShownField.{ShownField}
use Rattle.seen9.specs.declared.drawn.WhyNothing.TheVariants as nothing
use Rattle.sheet9.specs.Text as sheet
use Rattle.program9.specs.declared.ending.ClashingSheets.{ClashingSheets}
use Rattle.program9.specs.declared.ending.RefusedExport.{RefusedExport}
use Rattle.program9.specs.declared.ending.Message.{Message}
use Rattle.program9.specs.declared.ending.Message.TheVariants as message
use Rattle.program9.specs.Header.{header_found}
use Rattle.program9.specs.Want.{advice_of}
use Rattle.program9.specs.Word.{dash_hint, expected_of, file_name_of, first_line_of, notice_text, reason_of, refuser_word, word_of}

-- what a bad row has in the field that is wrong, after what was expected there
abbrev pub found_text : Option ShownField → List ℕ
found_text (Some field) = codes "; the row has " ++ shown_text field
found_text None = []

-- where something was refused: in which file, where it is told, and in which line; 0 is before the first
abbrev pub place_text : Option (String Global) → ℕ → List ℕ
place_text (Some file) line = if (line == 0) then (codes ": " ++ string_bytes file) else (codes ": " ++ (string_bytes file ++ (codes ": line " ++ decimal line)))
place_text None line = if (line == 0) then [] else (codes ": line " ++ decimal line)

-- what was refused of an export, or of a split
abbrev pub refused_text : RefusedExport → List ℕ
refused_text r = codes "ninecheck " ++ (refuser_word r.by ++ (place_text r.file r.line ++ (codes ": " ++ string_bytes r.text)))

-- of two sheets that say different things, the later one, the key, and the earlier one
abbrev pub clash_text : ClashingSheets → List ℕ
clash_text told = string_bytes told.file ++ (codes ": " ++ (string_bytes told.key ++ (codes ": said otherwise in " ++ string_bytes told.earlier)))

-- two lines, or what to look at besides the answers to several terms, or what to ask next, without a line feed at the end; nothing where
-- there is a verdict, or the version was told, and nothing more to say
abbrev pub text_of : Message → List ℕ
text_of message.Nothing = []
text_of (message.Unreadable e) = codes "unreadable at row " ++ decimal e.row ++ codes ": " ++ word_of e.kind ++ codes "\n" ++ expected_of e.kind e.row ++ found_text e.field
text_of (message.BadRow b) = codes "unreadable at row " ++ decimal b.fault.row ++ codes ": " ++ word_of b.fault.kind ++ codes "\n" ++ string_bytes b.file ++ codes ": " ++ expected_of b.fault.kind b.fault.row ++ found_text b.fault.field
text_of (message.NoHeader n) = codes "unreadable at row 0: header\n" ++ file_name_of n.file ++ codes ": expected the header time_us,wire,byte; the first line is " ++ header_found n.found
text_of (message.Refused r) = refused_text r
text_of (message.Notice n) = codes "ninecheck convert log: " ++ notice_text n
text_of (message.Lines lines) = string_bytes lines
text_of (message.NothingToDraw nothing.Yes) = codes "nothing to draw: the verdict is a yes"
text_of (message.NothingToDraw nothing.NoPartBreaks) = codes "nothing to draw: no part breaks"
text_of (message.NothingToDraw (nothing.NoBreakAt at)) = codes "nothing to draw: there is no break at record " ++ decimal at
text_of (message.ReadFault row) = codes "read fault at row " ++ decimal row ++ codes "\nexpected a capture that can be read to its end, not a directory"
text_of (message.CannotRead r) = codes "read fault at row " ++ decimal r.row ++ codes "\n" ++ string_bytes r.file ++ codes ": expected a capture that can be read to its end, not a directory"
text_of (message.CannotOpen u) = first_line_of u.why ++ codes "\n" ++ file_name_of u.file ++ codes ": " ++ reason_of u.why ++ dash_hint u.file
text_of (message.UnreadableSheet u) = codes "unreadable deck sheet\n" ++ string_bytes u.file ++ codes ": " ++ sheet.text_of u.refusal
text_of (message.ClashingSheets told) = codes "unreadable deck sheet\n" ++ clash_text told
text_of (message.CannotOpenSheet u) = codes "cannot open\n" ++ file_name_of u.file ++ codes ": " ++ reason_of u.why
text_of message.TextFault = codes "read fault\nthe text can't be read to its end"
text_of message.WriteFault = codes "write fault\nstandard output is full or closed; it has only the first part of the report"
text_of message.NoMemory = codes "out of memory\na row may never end, or memory is short: see ulimit -v"
text_of (message.TooLarge kept) = codes "out of memory\n" ++ advice_of kept
