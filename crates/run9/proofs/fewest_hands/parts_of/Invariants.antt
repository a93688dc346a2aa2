use Rattle.run9.proofs.Words.{length}
use Rattle.run9.proofs.fewest_hands.parts_of.Given as goal

abbrev pub decreases-loop-parts : goal.decreases-loop-parts
decreases-loop-parts l = length l.rest
