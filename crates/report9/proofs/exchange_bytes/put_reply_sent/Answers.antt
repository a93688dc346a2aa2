use Rattle.report9.proofs.Words.{append_assoc, IfOk-equal, rules, text_of_reply_sent}
use Rattle.report9.proofs.exchange_bytes.put_reply_sent.Goals as goal

pub returns : goal.returns
unfolding text_of_reply_sent
returns c = search (rules, IfOk-equal, append_assoc)
