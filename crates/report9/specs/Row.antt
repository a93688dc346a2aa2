-- Words in a row.
use Rattle.std.specs.Prelude.{ℕ, Bool, if◌then◌else◌, List, [], ◌∷◌, ◌++◌}

-- words in a row, with this before the first and that between two
abbrev pub in_a_row : List ℕ → List ℕ → List (List ℕ) → List ℕ
in_a_row before between [] = []
in_a_row before between (word ∷ words) = before ++ word ++ in_a_row between between words

-- the names of those of some things that are chosen
abbrev pub names_of : {A : Type 0} → (A → Bool) → (A → List ℕ) → List A → List (List ℕ)
names_of is_chosen name [] = []
names_of is_chosen name (x ∷ xs) = if is_chosen x then name x ∷ names_of is_chosen name xs else names_of is_chosen name xs
