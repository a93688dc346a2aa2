use Rattle.sets25.proofs.Lemmas.{union-empty}
use Rattle.sets25.proofs.shared_set.SharedSet.alone.Goals as goal

pub returns-clause-members : goal.returns-clause-members
returns-clause-members c = union-empty _
