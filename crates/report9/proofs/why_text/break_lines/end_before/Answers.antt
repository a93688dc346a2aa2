use Rattle.report9.proofs.Words.{sym}
use Rattle.report9.proofs.why_text.break_lines.end_before.Goals as goal
use Rattle.report9.proofs.Lines.{end_of_tail}

pub returns-in-Some : goal.returns-in-Some
returns-in-Some c = sym (end_of_tail c.args.tail.now c.args.before.now c.in-Some.last.now c.in-Some.ensures.value)
