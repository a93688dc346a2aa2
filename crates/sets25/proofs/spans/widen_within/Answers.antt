-- Spans that have grown are of the day still.
use Rattle.sets25.proofs.Lemmas.{arith, common_steps, widened_of_day, ◌≡◌}
use Rattle.sets25.proofs.Words.{joined, map, widened_span}
use Rattle.sets25.proofs.spans.widen_within.Goals as goal

pub returns-clause-of_day : goal.returns-clause-of_day
returns-clause-of_day c =
    let is : c.truncate.new.self.items ≡ joined (map (widened_span c.args.rate c.args.direction) c.args.spans.now.items) = grind (arith, common_steps) in
    rw is (widened_of_day c.args.rate c.args.direction c.args.spans.now.items c.requires.of_day)
