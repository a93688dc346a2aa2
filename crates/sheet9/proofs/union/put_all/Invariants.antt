use Rattle.sheet9.proofs.Words.{nat_cmp, ℕ, ◌≡◌}
use Rattle.std.specs.BTreeMap.{btree_map_len, get}
use Rattle.sheet9.specs.Sheets.{either_said}
use Rattle.sheet9.proofs.union.put_all.Given as goal

-- what is left of the other table, with what was put so far, is what both say
abbrev pub invariant-rest : goal.invariant-rest
invariant-rest g l = (head : ℕ) → either_said (get nat_cmp l.rest head) (get nat_cmp l.table head) ≡ either_said (get nat_cmp l.fn.other head) (get nat_cmp l.initial.table head)

abbrev pub decreases-rest : goal.decreases-rest
decreases-rest g l = btree_map_len l.rest
