-- The members of a `SpanSet`.
use Rattle.sets25.specs.Times.{Times, times_where}
use Rattle.sets25.specs.HeldSpans.{spans_held}
use Rattle.sets25.specs.Spans.{is_covered}
use Rattle.sets25.specs.declared.span_set.SpanSet.{SpanSet}

-- the times in its spans
abbrev pub members_of : SpanSet → Times
members_of s = times_where s.rate (λ f. is_covered f (spans_held s.spans))
