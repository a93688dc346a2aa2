use Rattle.deck9.proofs.ContradictLemmas.{before_the_first}
use Rattle.deck9.proofs.laws.before_the_first_believed.Goals as goal

pub returns : goal.returns
returns c = before_the_first
