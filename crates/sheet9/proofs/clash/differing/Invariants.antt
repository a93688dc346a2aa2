use Rattle.sheet9.proofs.Words.{nat_cmp, ℕ}
use Rattle.std.specs.BTreeMap.{get}
use Rattle.std.specs.Prelude.{option_map}
use Rattle.sheet9.specs.Sheets.{SaySame}
use Rattle.sheet9.proofs.ClashLemmas.{SoOrToCome}
use Rattle.sheet9.proofs.clash.differing.Given as goal

-- a command of which the tables say different things is still to come
abbrev pub invariant-entries : goal.invariant-entries
invariant-entries g l =
    (head : ℕ) → SoOrToCome (λ h. SaySame (option_map g.V.EntryValue.said (get nat_cmp l.fn.one h)) (option_map g.V.EntryValue.said (get nat_cmp l.fn.other h))) l.head-iterator head
