-- What is kept is what the set has in common with the time.
use Rattle.sets25.proofs.Lemmas.{arith, nat_tests, of_day-kept, spans_held, times_where-common}
use Rattle.sets25.proofs.span_set.SpanSetTimeSet.keep_only.Goals as goal

pub returns-clause-ok : goal.returns-clause-ok
returns-clause-ok c = times_where-common c.args.self.now.rate _ _ c.args.time (λ f h. rw (c.keep_only.ensures, c.frames.ensures.value) (grind (arith, nat_tests)))

pub invariant_of-self : goal.invariant_of-self
invariant_of-self c = record {
  canonical = rw c.keep_only.ensures (grind (arith, nat_tests));
  of_day = rw (c.keep_only.ensures, c.frames.ensures.value) (of_day-kept c.args.self.now.rate c.args.time (spans_held c.args.self.now.spans) c.args.self.now.of_day);
}
