use Rattle.deck9.proofs.Words.{[], refl}
use Rattle.deck9.proofs.DriftLemmas.{drift_join}
use Rattle.deck9.proofs.laws.drifts_join.Goals as goal

pub returns : goal.returns
returns c = record { none = λ p on s. ([], refl); more = drift_join }
