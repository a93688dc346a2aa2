-- Each turn copies a list.
use Rattle.sets25.proofs.Lemmas.{append_assoc, arith, behind_more}
use Rattle.sets25.proofs.span_list.SpanList.as_one.Goals as goal

pub loop-list-preserved : goal.loop-list-preserved
loop-list-preserved c = grind (arith, append_assoc, c.loop-list.invariant, behind_more c.args.self.now.rest.items c.loop-list.list-index c.list-item.result)
