use Rattle.track9.proofs.Words.{and_parts, false≢true}
use Rattle.track9.proofs.pairs.Pairs.pick.Goals as goal
use Rattle.track9.proofs.BeforeLemmas.{some_shown}
use Rattle.track9.proofs.StartLemmas.{pair_parts, pair_there}
use Rattle.std.proofs.Common.{arith}

pub returns-then-not-is_some-clause-none : goal.returns-then-not-is_some-clause-none
returns-then-not-is_some-clause-none = grind (arith, false≢true, pair_there)

pub first-requires : goal.first-requires
first-requires = grind (arith, and_parts, some_shown)

pub returns-clause-some : goal.returns-clause-some
returns-clause-some c = grind (arith, and_parts, pair_parts c.args.goal c.args.shown c.args.self.now.0 c.first-goal.result c.first.result)
