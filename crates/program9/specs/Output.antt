-- What a writer behind a buffer holds.
use Rattle.std.specs.Prelude.{◌≡◌, ℕ, ◌++◌, List, Option, Some, None, ⊤}
use Rattle.std.specs.Io.KnownBytes.{append_known}
use Rattle.program9.specs.declared.buffered.Buffered.{Buffered}

-- what the writer behind the buffer holds, where that is known
abbrev pub contents_behind : {W : Type 0} → (W → Option (List ℕ)) → Buffered W → Option (List ℕ)
contents_behind contents b = contents b.to

-- what the writer holds, and then what the buffer holds
abbrev pub held_contents : {W : Type 0} → (W → Option (List ℕ)) → Buffered W → Option (List ℕ)
held_contents contents b = append_known (contents b.to) b.held.bytes.items

-- known bytes are a first part of these
abbrev pub IsFirstPart : Option (List ℕ) → Option (List ℕ) → Type 0
IsFirstPart part None = ⊤
IsFirstPart None (Some all) = ⊥
IsFirstPart (Some part) (Some all) = (rest : List ℕ) × (all ≡ part ++ rest)
