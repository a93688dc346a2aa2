use Rattle.sheet9.proofs.Words.{length, modes, ℕ, ◌<◌, ◌≡◌}
use Rattle.std.proofs.Common.{get_or}
use Rattle.deck9.specs.ModeSet.{either}
use Rattle.sheet9.proofs.passes.with_ways.Given as goal

-- the places so far have the modes of both
abbrev pub invariant-loop-place : goal.invariant-loop-place
invariant-loop-place l =
    (length l.both ≡ 10) × ((i : ℕ) → i < l.place → get_or l.both i (modes 0) ≡ either (get_or l.fn.one i (modes 0)) (get_or l.fn.other i (modes 0)))
