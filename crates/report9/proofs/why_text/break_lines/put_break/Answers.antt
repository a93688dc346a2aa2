use Rattle.report9.proofs.Words.{append_assoc, IfOk-equal, lines_of_break, rules}
use Rattle.report9.proofs.Lines.{no_break}
use Rattle.report9.proofs.why_text.break_lines.put_break.Goals as goal

pub returns : goal.returns
unfolding lines_of_break
returns c = search (rules, IfOk-equal, append_assoc)

pub returns-in_default : goal.returns-in_default
returns-in_default c = no_break c.args.profile.now c.args.verdict.now _ c.in_default.not-Break
