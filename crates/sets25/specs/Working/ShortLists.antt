-- Which of several lists of spans a frame goes into, and how what grows there meets the next list. Private functions alone cite this.
use Rattle.std.specs.Prelude.{ℕ, ◌+◌, ◌-◌, ◌<◌, List, [], ◌∷◌, Option, Some, None, length, take, drop}
use Rattle.std.specs.List.{All}
use Rattle.sets25.specs.Spans.{IsCanonical}
use Rattle.sets25.specs.ShortLists.{end_to_end}
use Rattle.sets25.specs.Working.SpanLists.{EndsBefore, glue}
use Rattle.sets25.specs.declared.span.Span.{Span}

-- where a list begins, or 0 where it is empty
abbrev pub begin_of : List Span → ℕ
begin_of [] = 0
begin_of (s ∷ spans) = s.first

-- f goes into the list at a place: no span before it reaches f, and each after it begins above f
pub record IsListPlace (f : ℕ) (lists : List (List Span)) (place : ℕ) : Type 0 where
  pub fits : place < length lists
  pub before : All (EndsBefore (f - 1)) (end_to_end (take place lists))
  pub behind : IsCanonical (f + 1) (end_to_end (drop (place + 1) lists))

-- the list with its last span ending at n
abbrev pub ended_at : ℕ → List Span → List Span
ended_at n [] = []
ended_at n (s ∷ []) = record { first = s.first; last = n } ∷ []
ended_at n (s ∷ t ∷ spans) = s ∷ ended_at n (t ∷ spans)

-- two lists as one, the last span of the first and the first of the second joined where they touch
abbrev pub meet : List Span → List Span → List Span
meet [] after = after
meet (s ∷ []) after = glue s after
meet (s ∷ t ∷ spans) after = s ∷ meet (t ∷ spans) after

-- the one span, if there is no other
abbrev pub only_span : List Span → Option Span
only_span [] = None
only_span (s ∷ []) = Some s
only_span (s ∷ t ∷ spans) = None
