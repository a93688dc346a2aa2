use Rattle.report9.proofs.Words.{append_assoc, IfOk-equal, line_if_ended, rules}
use Rattle.report9.proofs.why_text.break_lines.put_if_ended.Goals as goal

pub returns-in_default : goal.returns-in_default
unfolding line_if_ended
returns-in_default c = search rules

pub returns : goal.returns
unfolding line_if_ended
returns c = rw c.in-Some.is (search (rules, IfOk-equal, append_assoc))
