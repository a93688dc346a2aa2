use Rattle.deck9.proofs.ReplyLemmas.{some_step}
use Rattle.deck9.proofs.laws.never_stuck.Goals as goal

pub returns : goal.returns
returns c = some_step
