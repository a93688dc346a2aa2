-- A set of one span of one frame has one member.
use Rattle.sets25.proofs.Lemmas.{only_one-spans, only_other-spans, only_wide, spans_held}
use Rattle.sets25.proofs.span_set.SpanSetTimeSet.only.Goals as goal

pub returns-in_default : goal.returns-in_default
returns-in_default c = only_other-spans c.args.self.now.rate (spans_held c.args.self.now.spans) c.args.self.now.canonical c.args.self.now.of_day c.in_default.ensures

pub returns-then-span : goal.returns-then-span
returns-then-span c = only_one-spans c.args.self.now.rate (spans_held c.args.self.now.spans) c.in-Some.span c.from_frames_at.result c.args.self.now.canonical
    c.args.self.now.of_day c.in-Some.ensures c.if-span.true c.from_frames_at.ensures

pub returns-else-span : goal.returns-else-span
returns-else-span c = only_wide c.args.self.now.rate (spans_held c.args.self.now.spans) c.in-Some.span c.args.self.now.canonical c.args.self.now.of_day c.in-Some.ensures c.if-span.false
