use Rattle.sheet9.proofs.Words.{every_mode, Stop, ℕ, ◌<◌}
use Rattle.std.proofs.Common.{get_or}
use Rattle.sheet9.specs.Sheets.{SameWay, way_in}
use Rattle.sheet9.proofs.clash.other_way.Given as goal

-- the ways to the goals before this place are the same
abbrev pub invariant-loop-goal : goal.invariant-loop-goal
invariant-loop-goal l = (i : ℕ) → i < l.goal-index → SameWay (get_or every_mode i Stop) (way_in l.fn.one (get_or every_mode i Stop)) (way_in l.fn.other (get_or every_mode i Stop))
