use Rattle.judge9.proofs.laws.some_reason_applies.Goals as goal
use Rattle.judge9.proofs.LawLemmas.{breaks_once, some_reason}

pub returns : goal.returns
returns c = record { some = some_reason; one = breaks_once }
