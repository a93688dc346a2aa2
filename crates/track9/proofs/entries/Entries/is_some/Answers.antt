use Rattle.track9.proofs.entries.Entries.is_some.Goals as goal
use Rattle.track9.proofs.EntryLemmas.{empty_nil, nil_empty}
use Rattle.track9.proofs.Words.{arith, same_test}

pub returns-else-self : goal.returns-else-self
returns-else-self = grind (arith, same_test, empty_nil, nil_empty)
