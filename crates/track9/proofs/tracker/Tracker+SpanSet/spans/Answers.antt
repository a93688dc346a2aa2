use Rattle.track9.proofs.tracker.Tracker+SpanSet.spans.Goals as goal
use Rattle.track9.proofs.KnownLemmas.{span_count_is, spans_few}
use Rattle.std.proofs.Common.{arith}

pub returns-clause-exact : goal.returns-clause-exact
returns-clause-exact c = rw (← c.self.view_is) (span_count_is c.self.inside.states c.args.register c.spans.result c.self.invariant.whole c.spans.ensures)

pub returns-clause-few : goal.returns-clause-few
returns-clause-few = grind (arith, spans_few)
