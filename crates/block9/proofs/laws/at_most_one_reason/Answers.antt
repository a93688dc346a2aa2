use Rattle.block9.proofs.Words.{Holds, order}
use Rattle.block9.proofs.OrderLemmas.{first_once}
use Rattle.block9.proofs.laws.at_most_one_reason.Goals as goal

pub returns : goal.returns
returns c = λ rules tail next x y h k. first_once (λ z. Holds rules z tail next) order x y h k
