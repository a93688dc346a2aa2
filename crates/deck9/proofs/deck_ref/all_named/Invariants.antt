use Rattle.std.proofs.Common.{◌≡◌}
use Rattle.std.specs.BTreeMap.{values}
use Rattle.deck9.specs.Going.{all_with, nothing_on}
use Rattle.deck9.proofs.deck_ref.all_named.Given as goal

-- what was taken so far, with what is left, is all
abbrev pub invariant-loop-named : goal.invariant-loop-named
invariant-loop-named l = all_with l.all l.named-iterator ≡ all_with nothing_on (values l.fn.deck.acts)
