use Rattle.sheet9.proofs.Words.{nat_cmp, None, ℕ}
use Rattle.std.specs.BTreeMap.{btree_map_len, get}
use Rattle.sheet9.proofs.JoinLemmas.{AreJoined}
use Rattle.sheet9.proofs.acts.joined.Given as goal

-- each command is in what is left of the two maps, or in the joined one
abbrev pub invariant-losses : goal.invariant-losses
invariant-losses l =
    (head : ℕ)
    → AreJoined (get nat_cmp l.acts head) (get nat_cmp l.runs head) (get nat_cmp l.losses head) (get nat_cmp l.fn.shown head) (get nat_cmp l.fn.lost head)

abbrev pub decreases-losses : goal.decreases-losses
decreases-losses l = btree_map_len l.losses

abbrev pub invariant-runs : goal.invariant-runs
invariant-runs l = (head : ℕ) → AreJoined (get nat_cmp l.acts head) (get nat_cmp l.runs head) None (get nat_cmp l.fn.shown head) (get nat_cmp l.fn.lost head)

abbrev pub decreases-runs : goal.decreases-runs
decreases-runs l = btree_map_len l.runs
