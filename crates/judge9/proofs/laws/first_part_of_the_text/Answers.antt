use Rattle.judge9.proofs.laws.first_part_of_the_text.Goals as goal
use Rattle.judge9.proofs.FirstText.{first_of_text}

pub returns : goal.returns
returns c = first_of_text
