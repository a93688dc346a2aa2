use Rattle.sets25.proofs.Lemmas.{on_ok_weaker, Prev, times_where-moved}
use Rattle.sets25.proofs.span_set.SpanSetTimeSet.shift_prev.Goals as goal

pub returns-clause-ok : goal.returns-clause-ok
returns-clause-ok c = on_ok_weaker c.shift.result (times_where-moved c.args.self.now.rate _ _ Prev) c.shift.ensures.ok
