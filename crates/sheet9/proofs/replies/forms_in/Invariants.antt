use Rattle.sheet9.proofs.Words.{[], drop, items_view, ◌≡◌}
use Rattle.sheet9.specs.Replies.{with_forms}
use Rattle.sheet9.proofs.replies.forms_in.Given as goal

-- the forms so far, with the items that are left, are those of all items
abbrev pub invariant-items : goal.invariant-items
invariant-items l =
    with_forms l.fn.key l.forms.items (items_view (drop l.value-index l.items)) ≡ with_forms l.fn.key [] (items_view l.fn.items)
