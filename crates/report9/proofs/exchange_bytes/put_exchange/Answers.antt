use Rattle.report9.proofs.Words.{append_assoc, IfOk-equal, rules, text_of_exchange}
use Rattle.report9.proofs.exchange_bytes.put_exchange.Goals as goal

pub returns : goal.returns
unfolding text_of_exchange
returns c = search (rules, IfOk-equal, append_assoc)
