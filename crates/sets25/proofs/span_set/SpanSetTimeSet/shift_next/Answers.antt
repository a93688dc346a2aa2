use Rattle.sets25.proofs.Lemmas.{Next, on_ok_weaker, times_where-moved}
use Rattle.sets25.proofs.span_set.SpanSetTimeSet.shift_next.Goals as goal

pub returns-clause-ok : goal.returns-clause-ok
returns-clause-ok c = on_ok_weaker c.shift.result (times_where-moved c.args.self.now.rate _ _ Next) c.shift.ensures.ok
