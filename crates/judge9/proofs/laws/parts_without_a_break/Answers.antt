use Rattle.judge9.proofs.PartLaws.{counts_of_a_yes}
use Rattle.judge9.proofs.laws.parts_without_a_break.Goals as goal

pub returns : goal.returns
returns c = counts_of_a_yes
