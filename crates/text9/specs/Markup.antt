-- A text that is written piece by piece, and foreign text in an SVG or in a page.
use Rattle.std.specs.Prelude.{◌≡◌, ◌≢◌, ◌++◌, ◌∷◌, ◌⊎◌, [], ℕ, List, Option, Some, None, codes, ◌==◌, if◌then◌else◌}
use Rattle.std.specs.List.{All}

-- a piece stands behind the text, or memory was refused, now or before
abbrev pub IsPut : Option (List ℕ) → Option (List ℕ) → Option (List ℕ) → Type 0
IsPut before after piece =
    (after ≡ None) ⊎ ((text more : List ℕ) × ((before ≡ Some text) × (piece ≡ Some more) × (after ≡ Some (text ++ more))))

-- a byte as it is written: those of & < > " have names
abbrev pub escape_of : ℕ → List ℕ
escape_of b = if b == 38 then codes "&amp;" else (if b == 60 then codes "&lt;" else (if b == 62 then codes "&gt;" else (if b == 34 then codes "&quot;" else b ∷ [])))

abbrev pub escaped : List ℕ → List ℕ
escaped [] = []
escaped (b ∷ text) = escape_of b ++ escaped text

-- no byte of it begins a mark, ends one, or ends a quoted value
pub record IsEscaped (text : List ℕ) : Type 0 where
  pub begins_none : All (λ b. b ≢ 60) text
  pub ends_none : All (λ b. b ≢ 62) text
  pub quotes_none : All (λ b. b ≢ 34) text

-- texts one behind the other
abbrev pub joined : List (List ℕ) → List ℕ
joined [] = []
joined (text ∷ texts) = text ++ joined texts
