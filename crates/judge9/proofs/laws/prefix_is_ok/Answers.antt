use Rattle.judge9.proofs.laws.prefix_is_ok.Goals as goal
use Rattle.judge9.proofs.LawLemmas.{ok_less}

pub returns : goal.returns
returns c = ok_less
