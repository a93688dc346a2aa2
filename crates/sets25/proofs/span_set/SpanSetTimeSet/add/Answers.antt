-- The list with the frame is the set with the time, where it is one of the day.
use Rattle.sets25.proofs.Lemmas.{arith, covered_with, of_day-added, on_ok_weaker, spans_held, with_time-insert, with_time-same}
use Rattle.sets25.proofs.span_set.SpanSetTimeSet.add.Goals as goal

pub invariant_of-self : goal.invariant_of-self
invariant_of-self c = record {
  canonical = c.add.ensures.canonical;
  of_day = of_day-added c.args.self.now.rate c.add.result c.args.time (spans_held c.args.self.now.spans) _ (omega arith) c.args.self.now.of_day
      (rw c.frames-frame.ensures.value at c.add.ensures.ok) c.add.ensures.err;
}

pub returns-then-frame-frames_in_day-clause-ok : goal.returns-then-frame-frames_in_day-clause-ok
returns-then-frame-frames_in_day-clause-ok c = with_time-same c.args.self.now.rate _ c.args.time (λ h. absurd (omega arith))

pub returns-clause-ok : goal.returns-clause-ok
returns-clause-ok c =
    on_ok_weaker c.add.result (λ told.
    with_time-insert c.args.self.now.rate _ _ c.args.time (omega arith) (λ f h. rw (told, c.frames-frame.ensures.value)
    (covered_with f 0 c.args.time _ c.args.self.now.canonical (omega arith)))) c.add.ensures.ok
