use Rattle.sets25.proofs.Lemmas.{Next, on_ok_weaker, times_where-widened}
use Rattle.sets25.proofs.span_set.SpanSetTimeSet.widen_next.Goals as goal

pub returns-clause-ok : goal.returns-clause-ok
returns-clause-ok c = on_ok_weaker c.widen.result (times_where-widened c.args.self.now.rate _ _ Next) c.widen.ensures.ok
