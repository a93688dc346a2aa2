use Rattle.report9.proofs.Words.{append_assoc, IfOk-equal, rules, text_of_records}
use Rattle.report9.proofs.exchange_bytes.put_records.Goals as goal

pub returns : goal.returns
unfolding text_of_records
returns c = search (rules, IfOk-equal, append_assoc)
