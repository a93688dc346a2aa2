-- Elements that are pushed one by one.
use Rattle.std.specs.Prelude.{◌≡◌, ◌++◌, ◌∷◌, ◌⊎◌, [], List, Option, Some, None}

-- an element stands behind the others, or memory was refused, now or before
abbrev pub IsPushed : {T : Type 0} → Option (List T) → Option (List T) → T → Type 0
IsPushed before after item =
    (after ≡ None) ⊎ ((items : List _) × ((before ≡ Some items) × (after ≡ Some (items ++ (item ∷ [])))))
