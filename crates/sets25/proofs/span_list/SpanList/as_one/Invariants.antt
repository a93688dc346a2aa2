-- What is copied and what is to come are all spans.
use Rattle.sets25.proofs.Words.{drop, end_to_end, lists_in, spans_of, ◌++◌, ◌≡◌}
use Rattle.sets25.proofs.span_list.SpanList.as_one.Given as goal

abbrev pub invariant-loop-list : goal.invariant-loop-list
invariant-loop-list l = l.all.items ++ end_to_end (drop l.list-index (lists_in l.self.rest.items)) ≡ spans_of l.self
