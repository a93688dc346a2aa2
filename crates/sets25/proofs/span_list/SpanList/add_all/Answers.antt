use Rattle.sets25.proofs.Lemmas.{canonical_at, spans_of}
use Rattle.sets25.proofs.span_list.SpanList.add_all.Goals as goal

pub add_span-requires-clause-in_day : goal.add_span-requires-clause-in_day
add_span-requires-clause-in_day c =
    rw (c.deref-span-items.ensures.value, c.in_ok-as_one.ensures) (canonical_at 0 (spans_of c.args.other.now) c.requires.others c.loop-span.span-index _
    (rw (c.deref-span-items.ensures.value, c.in_ok-as_one.ensures) at c.loop-span-test.true)).1
