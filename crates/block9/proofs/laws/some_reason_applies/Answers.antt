use Rattle.block9.proofs.ReasonLemmas.{reason_broken, some_reason}
use Rattle.block9.proofs.laws.some_reason_applies.Goals as goal

pub returns-clause-some : goal.returns-clause-some
returns-clause-some c = some_reason

pub returns-clause-broken : goal.returns-clause-broken
returns-clause-broken c = reason_broken
