use Rattle.deck9.proofs.ContradictLemmas.{believing_fewer}
use Rattle.deck9.proofs.laws.believing_fewer_is_no_harder.Goals as goal

pub returns : goal.returns
returns c = believing_fewer
