use Rattle.deck9.proofs.RunLemmas.{ends_more, ends_none}
use Rattle.deck9.proofs.laws.states_after_one_more.Goals as goal

pub returns : goal.returns
returns c = record { none = ends_none; more = ends_more }
