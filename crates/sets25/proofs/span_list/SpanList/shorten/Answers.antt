-- The list at the place is shortened.
use Rattle.sets25.proofs.Lemmas.{arith, filled_set, length-take, lists_set, take}
use Rattle.sets25.proofs.span_list.SpanList.shorten.Goals as goal

pub invariant_of-self-clause-filled : goal.invariant_of-self-clause-filled
invariant_of-self-clause-filled c =
    filled_set _ _ c.args.self.now.filled _ _ (omega arith) c.index_mut.ensures.value (λ some.
    rw c.shorten.ensures (omega (arith, length-take c.args.count c.index_mut.result.now.items, c.requires.some.0)))

pub returns-in-Some : goal.returns-in-Some
returns-in-Some c = lists_set _ _ c.args.place c.in-Some.index _ _ (take c.args.count) (omega arith) (omega arith) c.index_mut.ensures.value c.shorten.ensures
