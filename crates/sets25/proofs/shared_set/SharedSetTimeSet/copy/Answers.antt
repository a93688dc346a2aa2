-- The new base has all members.
use Rattle.sets25.proofs.Lemmas.{union-empty_right}
use Rattle.sets25.proofs.shared_set.SharedSetTimeSet.copy.Goals as goal

pub returns-then-spans-most_copied-clause-members : goal.returns-then-spans-most_copied-clause-members
returns-then-spans-most_copied-clause-members c = rw (c.in-Ok.ensures.ok, c.none_at.ensures.members, union-empty_right) c.in_ok-gathered.ensures.members
