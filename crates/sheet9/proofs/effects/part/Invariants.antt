use Rattle.sheet9.proofs.Words.{nat_cmp, ℕ}
use Rattle.std.specs.BTreeMap.{btree_map_len, get}
use Rattle.sheet9.specs.Sheet.{is_beside}
use Rattle.sheet9.proofs.PartLemmas.{AreParted}
use Rattle.sheet9.proofs.effects.part.Given as goal

-- each command is in the map that is left, or in its part
abbrev pub invariant-rest : goal.invariant-rest
invariant-rest l =
    (head : ℕ)
    → AreParted (is_beside (get nat_cmp l.fn.goals) head) (get nat_cmp l.rest head) (get nat_cmp l.fn.said head) (get nat_cmp l.alone head) (get nat_cmp l.beside head)

abbrev pub decreases-rest : goal.decreases-rest
decreases-rest l = btree_map_len l.rest
