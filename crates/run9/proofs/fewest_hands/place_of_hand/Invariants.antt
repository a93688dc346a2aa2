use Rattle.run9.proofs.Words.{length, ◌≤◌}
use Rattle.run9.proofs.fewest_hands.place_of_hand.Given as goal

abbrev pub invariant-loop-at : goal.invariant-loop-at
invariant-loop-at l = l.place ≤ length l.exchanges
