use Rattle.track9.proofs.Words.{arith}
use Rattle.track9.proofs.states.States.state_on.Goals as goal
use Rattle.track9.proofs.PartLemmas.{own_on}

pub state-requires : goal.state-requires
state-requires g c = grind (arith, own_on c.args.self.now c.in-Some.on.value c.requires)
