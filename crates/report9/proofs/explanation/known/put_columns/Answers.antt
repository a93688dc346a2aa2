use Rattle.report9.proofs.Words.{append_assoc, IfOk-equal, rules, text_of_knowledge}
use Rattle.report9.proofs.explanation.known.put_columns.Goals as goal

pub returns : goal.returns
unfolding text_of_knowledge
returns g c = search (rules, IfOk-equal, append_assoc)
