use Rattle.report9.proofs.Words.{append_assoc, IfOk-equal, rules, text_of_head}
use Rattle.report9.proofs.explanation.asked.put_head.Goals as goal

pub returns : goal.returns
unfolding text_of_head
returns c = search (rules, IfOk-equal, append_assoc)
