use Rattle.judge9.proofs.laws.one_answer.Goals as goal
use Rattle.judge9.proofs.LawLemmas.{answer_once}

pub returns : goal.returns
returns c = answer_once
