use Rattle.track9.proofs.pairs.Pairs.source.Goals.{else-is_some-via-then-is_some+else-has-2, else-is_some-via-else-is_some}
use Rattle.track9.proofs.pairs.Pairs.source.Goals as goal
use Rattle.track9.proofs.BeforeLemmas.{some_goal, some_shown, source_halted}
use Rattle.track9.proofs.EntryLemmas.{drifted_from, pairs_some, reach_has, way_comes}
use Rattle.track9.proofs.Words.{is_mode-same, or_cases}
use Rattle.std.proofs.Common.{arith}

pub first-goal-requires : goal.first-goal-requires
first-goal-requires = grind (arith, drifted_from, some_goal, pairs_some)

pub first-requires-2 : goal.first-requires-2
first-requires-2 c = rw c.shown.ensures (some_shown c.args.self.now.0 c.first-goal.result (rw c.goals.ensures at c.first-goal.ensures))

pub returns : goal.returns
returns = grind (arith, source_halted, else-is_some-via-then-is_some+else-has-2, else-is_some-via-else-is_some)

pub returns-then-has-2 : goal.returns-then-has-2
returns-then-has-2 c = grind (arith, reach_has c.args.acting.now c.args.goal c.args.shown, is_mode-same c.args.shown c.args.goal, way_comes c.args.acting.now c.args.goal c.args.shown, or_cases)
