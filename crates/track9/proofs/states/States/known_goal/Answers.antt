use Rattle.track9.proofs.Words.{arith, states_goals, State}
use Rattle.track9.proofs.states.States.known_goal.Goals as goal
use Rattle.track9.proofs.KnownLemmas.{has_goals, modes_known, modes_some}

pub known-requires : goal.known-requires
known-requires g c = grind (arith, modes_some c.args.self.now (λ (s : State). s.goal) (states_goals c.args.self.now) (has_goals c.args.self.now c.requires.whole))

pub returns : goal.returns
returns g c = modes_known _ _ _ c.known.result (has_goals c.args.self.now c.requires.whole) (rw c.goals.ensures at c.known.ensures)
