-- The spans of a `SpanList`.
use Rattle.std.specs.Prelude.{List, ◌∷◌}
use Rattle.sets25.specs.ShortLists.{end_to_end, lists_in}
use Rattle.sets25.specs.declared.span.Span.{Span}
use Rattle.sets25.specs.declared.span_list.SpanList.{SpanList}

-- its lists, in order
abbrev pub lists_of : SpanList → List (List Span)
lists_of l = l.first.items ∷ lists_in l.rest.items

-- its spans, in order
abbrev pub spans_of : SpanList → List Span
spans_of l = end_to_end (lists_of l)
