-- the values so far
use Rattle.std.proofs.Common.{map, take, ◌≡◌}
use Rattle.std.specs.String.{string_bytes}
use Rattle.words9.proofs.words.values_of.Given as goal

abbrev pub invariant-loop-value : goal.invariant-loop-value
invariant-loop-value l = map (λ s. string_bytes s) l.values.items ≡ map (λ v. v.now) (take l.value-index l.given)
