use Rattle.deck9.proofs.RunLemmas.{some_end}
use Rattle.deck9.proofs.laws.no_state_without_a_run.Goals as goal

pub returns : goal.returns
returns c = some_end
