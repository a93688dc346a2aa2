use Rattle.report9.proofs.Words.{append_assoc, IfOk-equal, rules}
use Rattle.report9.proofs.Rows.{next_more, row_more}
use Rattle.report9.proofs.exchange_bytes.said.put_reported.Goals as goal

pub returns : goal.returns
returns c = search (rules, IfOk-equal, append_assoc, row_more, next_more)
