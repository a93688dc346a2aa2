use Rattle.report9.proofs.Words.{append_assoc, IfOk-equal, line_of_open, rules}
use Rattle.report9.proofs.why_text.break_lines.put_open_block.Goals as goal
use Rattle.report9.proofs.Lines.{no_line}

pub returns-in_default : goal.returns-in_default
returns-in_default c = no_line c.args.profile.now c.args.count c.args.so_far.now c.args.wire c.args.breaking c.args.records.now _ c.in_default.ensures.value

pub returns : goal.returns
unfolding line_of_open
returns c = search (rules, IfOk-equal, append_assoc)
