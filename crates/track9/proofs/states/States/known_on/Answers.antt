use Rattle.track9.proofs.Words.{arith}
use Rattle.track9.proofs.states.States.known_on.Goals as goal
use Rattle.track9.proofs.PartLemmas.{own_on}

pub known-requires : goal.known-requires
known-requires g c = grind (arith, own_on c.args.self.now c.in-Some.on.value c.requires)
