-- Spans of one frame, and spans that move or grow by one.
use Rattle.std.specs.Prelude.{ℕ, ◌+◌, ◌-◌, min}
use Rattle.tc25.specs.Day.{last_frame}
use Rattle.tc25.specs.declared.rate.Rate.{Rate}
use Rattle.sets25.specs.declared.direction.Direction.{Direction}
use Rattle.sets25.specs.declared.direction.Direction.TheVariants.{Next, Prev}
use Rattle.sets25.specs.declared.span.Span.{Span}

-- the span of one frame
abbrev pub point : ℕ → Span
point f = record { first = f; last = f }

-- the span one frame on or back, without what leaves the day
abbrev pub shifted_span : Rate → Direction → Span → Span
shifted_span rate Next s = record { first = s.first + 1; last = min (s.last + 1) (last_frame rate) }
shifted_span rate Prev s = record { first = s.first - 1; last = s.last - 1 }

-- the span with the neighbour on one side, where that is in the day
abbrev pub widened_span : Rate → Direction → Span → Span
widened_span rate Next s = record { first = s.first; last = min (s.last + 1) (last_frame rate) }
widened_span rate Prev s = record { first = s.first - 1; last = s.last }
