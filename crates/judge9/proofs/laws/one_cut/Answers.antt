use Rattle.judge9.proofs.Words.{cut_once}
use Rattle.judge9.proofs.laws.one_cut.Goals as goal

pub returns : goal.returns
returns c = cut_once
