use Rattle.report9.proofs.Words.{append-nil, append_assoc, codes, on_ok_weaker, some_any, sym, text_of_runs, ◌∙◌}
use Rattle.report9.proofs.explanation.by_itself.put_runs.Goals as goal

pub returns-then-not-is_some : goal.returns-then-not-is_some
unfolding text_of_runs
returns-then-not-is_some c = rw (← (some_any c.args.modes), sym c.is_some.ensures ∙ c.if-not-is_some.true) (sym (append-nil c.args.line.now.items))

pub returns : goal.returns
unfolding text_of_runs
returns c = rw (← (some_any c.args.modes), sym c.is_some.ensures ∙ c.if-not-is_some.false)
    (on_ok_weaker c.put_modes.result (λ put. put ∙ rw c.in_ok-put_text.ensures (append_assoc c.args.line.now.items (codes ", may run ") _)) c.put_modes.ensures)
