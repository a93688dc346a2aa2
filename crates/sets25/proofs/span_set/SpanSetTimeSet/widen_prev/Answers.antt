use Rattle.sets25.proofs.Lemmas.{on_ok_weaker, Prev, times_where-widened}
use Rattle.sets25.proofs.span_set.SpanSetTimeSet.widen_prev.Goals as goal

pub returns-clause-ok : goal.returns-clause-ok
returns-clause-ok c = on_ok_weaker c.widen.result (times_where-widened c.args.self.now.rate _ _ Prev) c.widen.ensures.ok
