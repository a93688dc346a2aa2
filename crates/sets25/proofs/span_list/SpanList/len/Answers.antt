-- There are no more spans than every other frame of the day.
use Rattle.sets25.proofs.Lemmas.{arith, behind_more, length-append, spans_fit, spans_of}
use Rattle.sets25.proofs.span_list.SpanList.len.Goals as goal

pub overflow_add-count : goal.overflow_add-count
overflow_add-count c =
    let few = spans_fit 0 (spans_of c.args.self.now) c.requires (omega arith) in
    grind (
      arith,
      c.loop-list.invariant,
      c.list-item.result.ok.0,
      length-append,
      behind_more c.args.self.now.rest.items c.loop-list.list-index
          c.list-item.result,
    )

pub loop-list-preserved : goal.loop-list-preserved
loop-list-preserved c = grind (
  arith,
  c.loop-list.invariant,
  c.list-item.result.ok.0,
  length-append,
  behind_more c.args.self.now.rest.items
      c.loop-list.list-index c.list-item.result,
)
