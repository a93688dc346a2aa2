use Rattle.std.specs.Io.KnownBytes.{Consumes}
use Rattle.program9.proofs.again.read_whole.Given as goal

-- what was read is what the reader has no more
abbrev pub invariant-loop : goal.invariant-loop
invariant-loop g l = Consumes (g.R.Read.remaining l.fn.reader) (g.R.Read.remaining l.reader) l.text.items
