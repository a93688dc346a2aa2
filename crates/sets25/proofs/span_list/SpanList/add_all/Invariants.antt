-- The spans so far are in the list, and no other frames were added.
use Rattle.sets25.proofs.Words.{is_covered, IsCanonical, spans_of, take, ℕ, ◌||◌, ◌≡◌}
use Rattle.sets25.proofs.span_list.SpanList.add_all.Given as goal

abbrev pub invariant-loop-span : goal.invariant-loop-span
invariant-loop-span l = record {
  canonical : IsCanonical 0 (spans_of l.self);
  covers : (f : ℕ) → is_covered f (spans_of l.self) ≡ (is_covered f (take l.span-index (spans_of l.other)) || is_covered f (spans_of l.fn.self));
}
