use Rattle.sheet9.proofs.Words.{length, ◌≡◌}
use Rattle.sheet9.specs.Names.{has_blanks_apart}
use Rattle.sheet9.proofs.names.has_blanks_apart.Given as goal

abbrev pub invariant-rest : goal.invariant-rest
invariant-rest l = has_blanks_apart l.rest ≡ has_blanks_apart l.fn.name

abbrev pub decreases-rest : goal.decreases-rest
decreases-rest l = length l.rest
