use Rattle.std.proofs.Common.{inl}
use Rattle.program9.proofs.program.begin.Goals as goal

pub returns-in-Err-clause-ends : goal.returns-in-Err-clause-ends
returns-in-Err-clause-ends g c = inl (rw (c.take-deck_file.ensures.value, c.as_slice.ensures.value) at c.in-Err.ensures.ends)
