-- The last span of the list at the place is changed.
use Rattle.sets25.proofs.Lemmas.{arith, ended_at, filled_set, length-ended_at, lists_set}
use Rattle.sets25.proofs.span_list.SpanList.end_at.Goals as goal

pub invariant_of-self-clause-filled : goal.invariant_of-self-clause-filled
invariant_of-self-clause-filled c =
    filled_set _ _ c.args.self.now.filled _ _ (omega arith) c.index_mut.ensures.value (λ some. rw (c.end_at.ensures, length-ended_at) some)

pub invariant_of-self-in-None-clause-begun : goal.invariant_of-self-in-None-clause-begun
invariant_of-self-in-None-clause-begun c = λ h. rw (c.end_at-in-None.ensures, length-ended_at) (c.args.self.now.begun h)

pub returns-in-Some : goal.returns-in-Some
returns-in-Some c = lists_set _ _ c.args.place c.in-Some.index _ _ (ended_at c.args.last) (omega arith) (omega arith) c.index_mut.ensures.value c.end_at.ensures
