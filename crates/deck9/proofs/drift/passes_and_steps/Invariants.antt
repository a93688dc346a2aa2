use Rattle.deck9.proofs.Words.{index_of, Mode, PassesTo, ◌<◌}
use Rattle.deck9.proofs.drift.passes_and_steps.Given as goal

-- no mode so far leads on
abbrev pub invariant-loop-mode : goal.invariant-loop-mode
invariant-loop-mode l = (m : Mode) → index_of m < l.mode-index → PassesTo l.profile l.fn.going l.exchange l.before l.after m → ⊥
