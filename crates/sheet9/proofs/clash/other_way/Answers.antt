use Rattle.sheet9.proofs.Words.{arith, index_of, ◌<◌}
use Rattle.std.proofs.Common.{subst}
use Rattle.sheet9.specs.Sheets.{SameWay, way_in}
use Rattle.sheet9.proofs.ClashLemmas.{at_its_place}
use Rattle.sheet9.proofs.clash.other_way.Goals as goal

pub returns-clause-none : goal.returns-clause-none
returns-clause-none c = λ none goal.
    let place = at_its_place goal in
    let passed : index_of goal < c.loop-goal.goal-index = omega (arith, place.0, c.loop-goal-test.false, c.loop-goal.auto.goal-index-end) in
    subst (λ g. SameWay g (way_in c.args.one.now g) (way_in c.args.other.now g)) place.1 (c.loop-goal.invariant (index_of goal) passed)
