use Rattle.std.proofs.Common.{inr}
use Rattle.program9.proofs.sheet.read_other.Goals as goal

pub returns-in-Err-clause-ends : goal.returns-in-Err-clause-ends
returns-in-Err-clause-ends g c = inr (c.in-Some.file, c.in-Some.is, c.in-Err.ensures)
