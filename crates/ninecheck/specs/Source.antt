-- What a source of captures has still to give.
use Rattle.std.specs.Prelude.{ℕ, List, Option}
use Rattle.ninecheck.specs.declared.source.Source.{Source}
use Rattle.ninecheck.specs.declared.source.Source.TheVariants as source

-- what its own reader has, where that is known
abbrev pub bytes_to_come : {F S : Type 0} → (F → Option (List ℕ)) → (S → Option (List ℕ)) → Source F S → Option (List ℕ)
bytes_to_come file standard (source.File f) = file f
bytes_to_come file standard (source.Standard s) = standard s
