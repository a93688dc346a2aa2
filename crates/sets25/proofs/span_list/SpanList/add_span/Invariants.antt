-- The frames so far are in the list, and no others were added.
use Rattle.sets25.proofs.Words.{is_covered, IsCanonical, leb, ltb, spans_of, ℕ, ◌&&◌, ◌||◌, ◌≡◌}
use Rattle.sets25.proofs.span_list.SpanList.add_span.Given as goal

abbrev pub invariant-loop-frame : goal.invariant-loop-frame
invariant-loop-frame l = record {
  canonical : IsCanonical 0 (spans_of l.self);
  covers : (f : ℕ) → is_covered f (spans_of l.self) ≡ ((leb l.fn.span.first f && ltb f l.frame) || is_covered f (spans_of l.fn.self));
}
