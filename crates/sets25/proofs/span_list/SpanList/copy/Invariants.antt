-- The lists so far are copied.
use Rattle.sets25.proofs.Words.{lists_in, take, ◌≡◌}
use Rattle.sets25.proofs.span_list.SpanList.copy.Given as goal

abbrev pub invariant-loop-list : goal.invariant-loop-list
invariant-loop-list l = lists_in l.rest.items ≡ take l.list-index (lists_in l.self.rest.items)
