use Rattle.sets25.proofs.Lemmas.{is_empty_iff-spans, spans_held}
use Rattle.sets25.proofs.span_set.SpanSetTimeSet.is_empty.Goals as goal

pub returns : goal.returns
returns c = rw c.is_empty.ensures (is_empty_iff-spans c.args.self.now.rate (spans_held c.args.self.now.spans) c.args.self.now.canonical c.args.self.now.of_day)
