use Rattle.sets25.proofs.Lemmas.{refl, times_where-empty}
use Rattle.sets25.proofs.span_set.SpanSetTimeSet.none_at.Goals as goal

pub returns-clause-members : goal.returns-clause-members
returns-clause-members c = times_where-empty c.args.rate _ (λ f h. rw c.none.ensures refl)
