use Rattle.report9.proofs.Words.{append_assoc, IfOk-equal, line_of_breaking, rules}
use Rattle.report9.proofs.why_text.break_lines.put_breaking.Goals as goal

pub returns : goal.returns
unfolding line_of_breaking
returns c = search (rules, IfOk-equal, append_assoc)
