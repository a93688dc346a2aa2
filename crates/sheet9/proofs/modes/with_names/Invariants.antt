use Rattle.sheet9.proofs.Words.{drop, items_view, with_names, ◌≡◌}
use Rattle.sheet9.proofs.modes.with_names.Given as goal

-- the set so far, with the names that are left, is the set with all of them
abbrev pub invariant-names : goal.invariant-names
invariant-names l =
    with_names l.fn.table l.fn.key l.modes (items_view (drop l.value-index l.value-items)) ≡ with_names l.fn.table l.fn.key l.fn.set (items_view l.fn.names.items)
