use Rattle.deck9.proofs.ContradictLemmas.{some_reply}
use Rattle.deck9.proofs.laws.some_reply_passes.Goals as goal

pub returns : goal.returns
returns c = some_reply
