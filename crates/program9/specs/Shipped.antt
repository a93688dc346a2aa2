-- The sheets that the program has in itself.
use Rattle.std.specs.Prelude.{ℕ, Bool, List, [], ◌∷◌, codes}
use Rattle.std.specs.List.{list_any}
use Rattle.std.specs.Str.{bytes_eq}

-- their names
abbrev pub shipped_names : List (List ℕ)
shipped_names =
    codes "9pin" ∷ codes "edit" ∷ codes "eject" ∷ codes "jog" ∷ codes "no-bit" ∷ codes "rewind" ∷ codes "standby" ∷ codes "user-bits" ∷ codes "var-play" ∷ []

-- this is one of them
abbrev pub is_shipped : List ℕ → Bool
is_shipped name = list_any (λ known. bytes_eq name known) shipped_names
