use Rattle.report9.proofs.Words.{append_assoc, IfOk-equal, rules, text_of_command_sent}
use Rattle.report9.proofs.exchange_bytes.put_command_sent.Goals as goal

pub returns : goal.returns
unfolding text_of_command_sent
returns c = search (rules, IfOk-equal, append_assoc)
