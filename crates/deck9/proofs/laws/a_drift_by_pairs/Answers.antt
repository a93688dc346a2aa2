use Rattle.deck9.proofs.DriftLemmas.{drift_from_pairs, pairs_from_drift}
use Rattle.deck9.proofs.laws.a_drift_by_pairs.Goals as goal

pub returns : goal.returns
returns c = λ p on s t. (pairs_from_drift p on s t, drift_from_pairs p on s t)
