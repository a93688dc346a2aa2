use Rattle.track9.proofs.laws.one_knowledge.Goals as goal
use Rattle.track9.proofs.OneKnowledge.{known_of_ends}

pub returns : goal.returns
returns c = known_of_ends
