use Rattle.deck9.proofs.Words.{on_at_first}
use Rattle.deck9.proofs.GoingLemmas.{part_self}
use Rattle.deck9.proofs.RestLemmas.{rest_runs}
use Rattle.deck9.proofs.laws.rest_has_a_run.Goals as goal

pub returns : goal.returns
returns c = λ p es fs r. rest_runs p (on_at_first p.deck) es fs r.first r.after (part_self (on_at_first p.deck)) r.is_first r.is_run
