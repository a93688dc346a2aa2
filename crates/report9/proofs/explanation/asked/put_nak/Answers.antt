use Rattle.report9.proofs.Words.{append_assoc, IfOk-equal, rules, text_of_nak}
use Rattle.report9.proofs.explanation.asked.put_nak.Goals as goal

pub returns : goal.returns
unfolding text_of_nak
returns c = search (rules, IfOk-equal, append_assoc)
