use Rattle.std.proofs.Common.{sym}
use Rattle.program9.proofs.message.ClashingSheetsDisplay.fmt.Goals as goal

pub returns-clause-writes : goal.returns-clause-writes
returns-clause-writes g c = λ plain ok.
    rw (sym c.as_str-file.ensures.value, sym c.as_str-key.ensures.value, sym c.as_str-earlier.ensures.value) (c.write.ensures.writes plain ok)
