-- A buffer that holds nothing.
use Rattle.std.proofs.Common.{◌≡◌, ◌∙◌, ap, ap₂, append-nil, refl, [], ℕ, List, Option, Some, None}
use Rattle.std.specs.Io.KnownBytes.{append_known}
use Rattle.program9.specs.declared.buffered.Buffered.{Buffered}
use Rattle.program9.specs.Output.{held_contents}

nothing_known : (written : Option (List ℕ)) → append_known written [] ≡ written
nothing_known None = refl
nothing_known (Some bytes) = ap Some (append-nil bytes)

-- it holds what the writer behind it holds
pub holds_nothing : {W : Type 0} (contents : W → Option (List ℕ)) (buffer : Buffered W) (out : W) → buffer.to ≡ out → buffer.held.bytes.items ≡ []
    → held_contents contents buffer ≡ contents out
holds_nothing contents buffer out behind empty = ap₂ append_known (ap contents behind) empty ∙ nothing_known (contents out)
