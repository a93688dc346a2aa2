-- What is counted and what is to come are all spans.
use Rattle.sets25.proofs.Words.{drop, end_to_end, length, lists_in, spans_of, ◌+◌, ◌≡◌}
use Rattle.sets25.proofs.span_list.SpanList.len.Given as goal

abbrev pub invariant-loop-list : goal.invariant-loop-list
invariant-loop-list l = l.count + length (end_to_end (drop l.list-index (lists_in l.self.rest.items))) ≡ length (spans_of l.self)
