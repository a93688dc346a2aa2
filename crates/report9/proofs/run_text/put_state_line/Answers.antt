use Rattle.report9.proofs.Words.{append_assoc, IfOk-equal, line_of_state, rules}
use Rattle.report9.proofs.run_text.put_state_line.Goals as goal

pub returns : goal.returns
unfolding line_of_state
returns c = search (rules, IfOk-equal, append_assoc)
