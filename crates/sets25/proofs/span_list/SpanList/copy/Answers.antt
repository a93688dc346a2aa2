-- Each turn copies a list.
use Rattle.sets25.proofs.Lemmas.{arith, copied_more, ◌∙◌}
use Rattle.sets25.proofs.span_list.SpanList.copy.Goals as goal

pub loop-list-preserved : goal.loop-list-preserved
loop-list-preserved c =
    copied_more c.args.self.now.rest.items c.loop-list.rest.items _ c.loop-list.list-index c.list-item.result c.in_ok-from_slice.field-0 c.loop-list.invariant
    (omega arith) (rw c.deref-list-items.ensures.value at c.list-item.is) (c.in_ok-from_slice.ensures.items ∙ c.deref-in-loop-list.ensures.value)
    c.in_ok-push.ensures.items
