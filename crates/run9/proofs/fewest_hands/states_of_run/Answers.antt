use Rattle.run9.proofs.fewest_hands.states_of_run.Goals as goal

pub returns : goal.returns
returns c = rw c.of.ensures.profile at c.states_to.ensures
