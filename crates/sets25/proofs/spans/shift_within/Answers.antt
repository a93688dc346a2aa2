-- Spans that have moved are of the day still.
use Rattle.sets25.proofs.Lemmas.{arith, common_steps, drop, length, shifted_of_day, shifted_span, take, ◌≡◌}
use Rattle.sets25.proofs.Words.{map, without_edge, ◌++◌}
use Rattle.sets25.proofs.spans.shift_within.Goals as goal

pub returns-clause-of_day : goal.returns-clause-of_day
returns-clause-of_day c =
    let is : take c.drop_edge.new.spans.len (c.shift_all.new.spans ++ drop (length c.shift_all.new.spans) c.drop_edge.new.spans.items)
    ≡ map (shifted_span c.args.rate c.args.direction) (without_edge c.args.rate c.args.direction c.args.spans.now.items) = grind (arith, common_steps) in
    rw is (shifted_of_day c.args.rate c.args.direction c.args.spans.now.items c.requires.of_day)
