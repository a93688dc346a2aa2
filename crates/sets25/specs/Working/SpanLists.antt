-- What the calls make of lists of spans, and where a frame stands in one. Private functions alone cite this.
use Rattle.std.specs.Prelude.{ℕ, ◌+◌, ◌≤◌, ◌<◌, ◌==◌, Bool, not, nat_le, nat_lt, if◌then◌else◌, min, max, List, [], ◌∷◌, length, take, drop, slice_index_or}
use Rattle.std.specs.List.{All, filter}
use Rattle.tc25.specs.Day.{last_frame}
use Rattle.tc25.specs.declared.rate.Rate.{Rate}
use Rattle.sets25.specs.Working.SpanMoves.{point}
use Rattle.sets25.specs.declared.direction.Direction.{Direction}
use Rattle.sets25.specs.declared.direction.Direction.TheVariants.{Next, Prev}
use Rattle.sets25.specs.declared.span.Span.{Span}

-- a span ends before f
abbrev pub EndsBefore : ℕ → Span → Type 0
EndsBefore f s = s.last < f

-- the index of the first span that ends at f or later
pub record IsPlace (f : ℕ) (spans : List Span) (index : ℕ) : Type 0 where
  pub fits : index ≤ length spans
  pub below : All (EndsBefore f) (take index spans)
  pub above : (d : Span) → 0 < length (drop index spans) → f ≤ (slice_index_or (drop index spans) 0 d).last

-- a span before a list, joined to the first of the list where they touch
abbrev pub glue : Span → List Span → List Span
glue s [] = s ∷ []
glue s (t ∷ spans) = if nat_le t.first (s.last + 1) then record { first = s.first; last = t.last } ∷ spans else s ∷ t ∷ spans

-- the list with spans that touch joined
abbrev pub joined : List Span → List Span
joined [] = []
joined (s ∷ spans) = glue s (joined spans)

-- the list with one frame more
abbrev pub with_frame : ℕ → List Span → List Span
with_frame f [] = point f ∷ []
with_frame f (s ∷ spans) =
    if nat_lt (s.last + 1) f
    then s ∷ with_frame f spans
    else (if nat_lt (f + 1) s.first then point f ∷ s ∷ spans else glue (record { first = min s.first f; last = max s.last f }) spans)

-- whether some of the span is in the day once it moves by one
abbrev pub stays : Rate → Direction → Span → Bool
stays rate Next s = not (s.first == last_frame rate)
stays rate Prev s = not (s.last == 0)

-- the list without a span that would leave the day
abbrev pub without_edge : Rate → Direction → List Span → List Span
without_edge rate d spans = filter (stays rate d) spans
