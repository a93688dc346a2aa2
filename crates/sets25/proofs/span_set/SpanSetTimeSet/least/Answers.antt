-- The first frame of the first span is the least.
use Rattle.sets25.proofs.Lemmas.{least_some-spans, none_passes, spans_held, times_where-empty}
use Rattle.sets25.proofs.span_set.SpanSetTimeSet.least.Goals as goal

pub returns-in-Some : goal.returns-in-Some
returns-in-Some c = least_some-spans c.args.self.now.rate (spans_held c.args.self.now.spans) c.in-Some.span c.from_frames_at.result c.args.self.now.canonical
    c.args.self.now.of_day c.in-Some.ensures c.from_frames_at.ensures

pub returns-in-None : goal.returns-in-None
returns-in-None c = times_where-empty c.args.self.now.rate _ (λ f h. none_passes _ _ c.in-None.ensures)
