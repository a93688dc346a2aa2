use Rattle.track9.proofs.entries.Entries.known.Goals as goal
use Rattle.track9.proofs.KnownLemmas.{knows_at, knows_clear, knows_nothing, knows_set}
use Rattle.std.proofs.Common.{arith}

pub returns-then-is_empty : goal.returns-then-is_empty
returns-then-is_empty g c = grind (arith, knows_clear c.args.self.now)

pub returns-then-self : goal.returns-then-self
returns-then-self g c = grind (arith, knows_nothing c.args.self.now)

pub returns-in-Some : goal.returns-in-Some
returns-in-Some g c = grind (arith, knows_at c.args.self.now c.in-Some.time, c.only.ensures c.in-Some.time)

pub returns-in-None : goal.returns-in-None
returns-in-None = grind (arith, knows_set)
