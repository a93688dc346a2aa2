-- Lists of spans that are kept in several lists.
use Rattle.std.specs.Prelude.{◌<◌, ◌++◌, List, [], ◌∷◌, length, map, Vec, ⊤}
use Rattle.std.specs.Coded.{×_prop, Unit-prop, le_prop}
use Rattle.std.specs.declared.alloc.Global.{Global}
use Rattle.sets25.specs.declared.span.Span.{Span}

-- the lists, one after another
abbrev pub end_to_end : List (List Span) → List Span
end_to_end [] = []
end_to_end (spans ∷ lists) = spans ++ end_to_end lists

-- what vectors of spans hold
abbrev pub lists_in : List (Vec Span Global) → List (List Span)
lists_in vectors = map (λ v. v.items) vectors

-- no list is empty
abbrev pub AllFilled : List (List Span) → Type 0
AllFilled [] = ⊤
AllFilled (spans ∷ lists) = (0 < length spans) × AllFilled lists

-- the fact has one proof at most
pub AllFilled-prop : (lists : List (List Span)) → IsProp (AllFilled lists)
AllFilled-prop [] = Unit-prop
AllFilled-prop (spans ∷ lists) = ×_prop le_prop (AllFilled-prop lists)
