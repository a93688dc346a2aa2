-- With no base the least member is its own.
use Rattle.sets25.proofs.Lemmas.{union-empty}
use Rattle.sets25.proofs.shared_set.SharedSetTimeSet.least.Goals as goal

pub returns-in-None : goal.returns-in-None
returns-in-None c = rw (c.in-None.is, union-empty) c.least-in-None.ensures
