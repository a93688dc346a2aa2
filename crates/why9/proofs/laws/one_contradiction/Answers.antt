use Rattle.why9.proofs.laws.one_contradiction.Goals as goal
use Rattle.why9.proofs.OneContradiction.{one_contradiction}

pub returns : goal.returns
returns c = one_contradiction
