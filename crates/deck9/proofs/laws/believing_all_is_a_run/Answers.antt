use Rattle.deck9.proofs.ContradictLemmas.{believing_all}
use Rattle.deck9.proofs.laws.believing_all_is_a_run.Goals as goal

pub returns : goal.returns
returns c = believing_all
