use Rattle.sets25.proofs.Lemmas.{arith, nat_tests, times_where-every}
use Rattle.sets25.proofs.span_set.SpanSetTimeSet.all_at.Goals as goal

pub returns-clause-members : goal.returns-clause-members
returns-clause-members c = times_where-every c.args.rate _ (λ f h. rw c.one.ensures (grind (arith, nat_tests)))
