-- What the clauses of private functions cite. No public contract reaches it, so no reader has to believe it.
use Rattle.std.specs.Prelude.{ℕ, List, [], ◌∷◌}

-- what comes before the next words of a row, after these
abbrev pub next_before : List ℕ → List ℕ → List (List ℕ) → List ℕ
next_before before between [] = before
next_before before between (word ∷ words) = between
