-- The spans of a `HeldSpans`.
use Rattle.std.specs.Prelude.{List, [], ◌∷◌, None, Some}
use Rattle.sets25.specs.SpanList.{spans_of}
use Rattle.sets25.specs.declared.held_spans.HeldSpans.{HeldSpans}
use Rattle.sets25.specs.declared.held_spans.HeldSpans.TheVariants.{AtMostOne, List as Listed}
use Rattle.sets25.specs.declared.span.Span.{Span}

-- its spans, in order
abbrev pub spans_held : HeldSpans → List Span
spans_held (AtMostOne None) = []
spans_held (AtMostOne (Some s)) = s ∷ []
spans_held (Listed l) = spans_of l
