use Rattle.report9.proofs.Words.{append_assoc, IfOk-equal, line_of_exchange, rules}
use Rattle.report9.proofs.explanation.put_exchange_line_for.Goals as goal

pub returns : goal.returns
unfolding line_of_exchange
returns c = search (rules, IfOk-equal, append_assoc)
