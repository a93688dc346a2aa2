use Rattle.sheet9.proofs.Words.{false, nat_cmp, ℕ, ◌≡◌}
use Rattle.std.specs.BTreeMap.{get}
use Rattle.std.specs.Prelude.{is_some, not, ◌&&◌}
use Rattle.sheet9.specs.Goals.{goes_with}
use Rattle.sheet9.proofs.ClashLemmas.{SoOrToCome}
use Rattle.sheet9.proofs.clash.forgetting_more.Given as goal

-- a command at which more is forgotten is still to come
abbrev pub invariant-entries : goal.invariant-entries
invariant-entries l =
    (head : ℕ) → SoOrToCome (λ h. (is_some (get nat_cmp l.fn.goals h) && not (goes_with (get nat_cmp l.fn.forgets h))) ≡ false) l.head-iterator head
