-- Lists of spans: what they cover, and their canonical form.
use Rattle.std.specs.Prelude.{ℕ, ◌+◌, ◌≤◌, ◌<◌, Bool, ◌&&◌, nat_le, List, [], ◌∷◌, ⊤}
use Rattle.std.specs.List.{list_any}
use Rattle.std.specs.Coded.{×_prop, Unit-prop, le_prop}
use mathlib.Core.HLevel.{×₃_prop}
use Rattle.tc25.specs.Day.{day, longest_day}
use Rattle.tc25.specs.declared.rate.Rate.{Rate}
use Rattle.sets25.specs.declared.span.Span.{Span}

-- whether a span has a frame
abbrev pub in_span : ℕ → Span → Bool
in_span f s = nat_le s.first f && nat_le f s.last

-- whether a span of the list has a frame
abbrev pub is_covered : ℕ → List Span → Bool
is_covered f spans = list_any (in_span f) spans

-- a span of the longest day
abbrev pub IsSpan : Span → Type 0
IsSpan s = (s.first ≤ s.last) × (s.last < longest_day)

-- spans of the longest day in order from `low` on, each at least two above the last of the one before
abbrev pub IsCanonical : ℕ → List Span → Type 0
IsCanonical low [] = ⊤
IsCanonical low (s ∷ spans) = (low ≤ s.first) × IsSpan s × IsCanonical (s.last + 2) spans

-- the fact has one proof at most
pub IsCanonical-prop : (low : ℕ) (spans : List Span) → IsProp (IsCanonical low spans)
IsCanonical-prop low [] = Unit-prop
IsCanonical-prop low (s ∷ spans) = ×₃_prop le_prop (×_prop le_prop le_prop) (IsCanonical-prop (s.last + 2) spans)

-- each of them is a span of the day
abbrev pub AreSpansOfDay : Rate → List Span → Type 0
AreSpansOfDay rate [] = ⊤
AreSpansOfDay rate (s ∷ spans) = (s.last < day rate) × AreSpansOfDay rate spans

-- the fact has one proof at most
pub AreSpansOfDay-prop : (rate : Rate) (spans : List Span) → IsProp (AreSpansOfDay rate spans)
AreSpansOfDay-prop rate [] = Unit-prop
AreSpansOfDay-prop rate (s ∷ spans) = ×_prop le_prop (AreSpansOfDay-prop rate spans)
