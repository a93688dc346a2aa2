use Rattle.sheet9.proofs.Words.{arith, every_mode, modes, own_ways, Stop, sym, ◌<◌, ◌∙◌}
use Rattle.std.proofs.lemmas.List.{ext_get_or, get_or-map}
use Rattle.deck9.specs.ModeCalls.{way}
use Rattle.sheet9.proofs.passes.own_ways.Goals as goal

pub returns : goal.returns
returns c = ext_get_or (modes 0) c.map.result own_ways c.map.ensures.items.long (λ i below.
    let within : i < 10 = omega (arith, c.map.ensures.items.long) in
    let called = c.map.ensures.items.at i Stop (modes 0) within in
    called.2.met.0 ∙ sym (get_or-map way every_mode i Stop (modes 0) within))
