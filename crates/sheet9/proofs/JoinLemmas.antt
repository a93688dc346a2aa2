-- Two maps are joined in one.
use Rattle.sheet9.proofs.Words.{None, Option, ◌≡◌, ◌⊎◌}
use Rattle.std.specs.Prelude.{option_map}
use Rattle.deck9.specs.declared.going.Going.{Going}
use Rattle.deck9.specs.declared.going.Lost.{Lost}
use Rattle.sheet9.specs.declared.runs.RunModes.{RunModes}
use Rattle.sheet9.specs.Acts.{going_of}

-- what the joined map has at a key, what the two still have, and what they had: it is still in the two, or in the joined one
abbrev pub AreJoined : Option Going → Option RunModes → Option Lost → Option RunModes → Option Lost → Type 0
AreJoined joined shown lost all_shown all_lost =
    ((joined ≡ None) × (shown ≡ all_shown) × (lost ≡ all_lost))
    ⊎ ((joined ≡ going_of (option_map (λ run. run.0) all_shown) all_lost) × (shown ≡ None) × (lost ≡ None))
