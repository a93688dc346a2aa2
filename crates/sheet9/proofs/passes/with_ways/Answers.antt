use Rattle.sheet9.proofs.Words.{arith, modes, ◌<◌, ◌∙◌}
use Rattle.std.proofs.lemmas.List.{ext_get_or}
use Rattle.sheet9.specs.Sheets.{both_ways}
use Rattle.sheet9.proofs.ClashLemmas.{all_at_places}
use Rattle.sheet9.proofs.passes.with_ways.Goals as goal

pub returns : goal.returns
returns c = ext_get_or (modes 0) c.loop-place.both (both_ways c.args.one.now c.args.other.now) c.loop-place.invariant.0 (λ i below.
    let within : i < 10 = omega (arith, below, c.loop-place.invariant.0) in
    let passed : i < c.loop-place.place = omega (arith, within, c.loop-place-test.false, c.loop-place.auto.place-end) in
    c.loop-place.invariant.1 i passed ∙ all_at_places c.args.one.now c.args.other.now i within)
