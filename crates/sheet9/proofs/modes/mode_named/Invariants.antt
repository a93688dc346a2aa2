use Rattle.sheet9.proofs.Words.{bytes_eq, drop, find, mode_named, ◌≡◌}
use Rattle.deck9.specs.Mode.{name_of}
use Rattle.sheet9.proofs.modes.mode_named.Given as goal

abbrev pub invariant-loop-mode : goal.invariant-loop-mode
invariant-loop-mode l = find (λ m. bytes_eq l.name (name_of m)) (drop l.mode-index l.mode-items) ≡ mode_named l.name
