use Rattle.std.proofs.Common.{Err, inl, Ok, refl}
use Rattle.std.specs.String.{string_bytes}
use Rattle.program9.specs.Shipped.{is_shipped}
use Rattle.program9.proofs.SheetLemmas.{or_read}
use Rattle.program9.proofs.sheet.read_one.Goals as goal

pub returns-in-Ok-read_whole-clause-text : goal.returns-in-Ok-read_whole-clause-text
returns-in-Ok-read_whole-clause-text g c =
    or_read (is_shipped (string_bytes c.args.file.now)) (c.in-Ok-opener.reader, record { shown = c.args.file; shows = refl; says = record { met = rw c.in-Ok-opener.is at c.opener.ensures } }, c.in-Ok-read_whole.ensures)

pub returns-in-Err-read_whole-clause-ends : goal.returns-in-Err-read_whole-clause-ends
returns-in-Err-read_whole-clause-ends g c =
    inl (Ok c.in-Ok-opener.reader, record { shown = c.args.file; shows = refl; says = record { met = rw c.in-Ok-opener.is at c.opener.ensures } }, (c.in-Err-read_whole.e, rw c.as_str-in-Err-read_whole.ensures.value at c.not_read.ensures))

pub returns-in-Err-opener-clause-ends : goal.returns-in-Err-opener-clause-ends
returns-in-Err-opener-clause-ends g c =
    inl (Err c.in-Err-opener.e, record { shown = c.args.file; shows = refl; says = record { met = rw c.in-Err-opener.is at c.opener.ensures } }, rw c.as_str-in-Err-opener.ensures.value at c.not_read-in-Err-opener.ensures)
