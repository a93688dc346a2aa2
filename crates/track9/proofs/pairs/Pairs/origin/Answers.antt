use Rattle.track9.proofs.Words.{and_parts, false≢true}
use Rattle.track9.proofs.pairs.Pairs.origin.Goals as goal
use Rattle.track9.proofs.BeforeLemmas.{origin_there, reached_parts, some_shown}
use Rattle.std.proofs.Common.{arith}

pub returns-then-not-is_some-clause-none : goal.returns-then-not-is_some-clause-none
returns-then-not-is_some-clause-none c = grind (arith, false≢true, origin_there c.args.acting.now c.args.self.now.0 c.args.goals c.args.shown)

pub first-requires : goal.first-requires
first-requires = grind (arith, and_parts, some_shown)

pub source-requires : goal.source-requires
source-requires c = grind (arith, reached_parts c.args.acting.now c.args.shown c.args.self.now.0 c.first-goal.result c.first.result)

pub returns-clause-some : goal.returns-clause-some
returns-clause-some c = grind (arith, and_parts, c.source.ensures, reached_parts c.args.acting.now c.args.shown c.args.self.now.0 c.first-goal.result c.first.result)
