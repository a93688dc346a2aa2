-- A member is a member of the base or its own.
use Rattle.sets25.proofs.Lemmas.{arith, nat_cmp_total}
use Rattle.std.specs.FinSet as set
use Rattle.sets25.proofs.shared_set.SharedSetTimeSet.contains.Goals as goal

pub returns-then-shares : goal.returns-then-shares
returns-then-shares c = grind (arith, set.contains-union nat_cmp_total)

pub returns-else-shares : goal.returns-else-shares
returns-else-shares c = grind (arith, set.contains-union nat_cmp_total)
