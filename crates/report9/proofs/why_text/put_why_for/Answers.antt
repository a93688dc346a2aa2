use Rattle.report9.proofs.Words.{append_assoc, IfOk-equal, rules}
use Rattle.report9.proofs.why_text.put_why_for.Goals as goal

pub returns-in_ok-put_break-in-Break : goal.returns-in_ok-put_break-in-Break
returns-in_ok-put_break-in-Break c = rw c.in-Break.is (search (rules, IfOk-equal, append_assoc))
