use Rattle.report9.proofs.Words.{append_assoc, IfOk-equal, rules, text_of_reply_given}
use Rattle.report9.proofs.exchange_bytes.put_reply_given.Goals as goal

pub returns : goal.returns
unfolding text_of_reply_given
returns c = search (rules, IfOk-equal, append_assoc)
