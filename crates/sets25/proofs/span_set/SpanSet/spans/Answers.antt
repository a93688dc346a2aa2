-- The list has one span for each of the set.
use Rattle.sets25.proofs.Lemmas.{span_count-spans, spans_held, sym, ◌∙◌}
use Rattle.sets25.proofs.span_set.SpanSet.spans.Goals as goal

pub returns : goal.returns
returns c = c.len.ensures ∙ sym (span_count-spans c.args.self.now.rate (spans_held c.args.self.now.spans) c.args.self.now.canonical c.args.self.now.of_day)
