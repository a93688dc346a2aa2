use Rattle.sheet9.proofs.Words.{length, List, Sheet, ◌∷◌, ◌≡◌}
use Rattle.std.specs.List.{fold}
use Rattle.std.specs.Vec.Iter.{into_iter_items, into_iter_len}
use Rattle.sheet9.specs.Sheets.{together}
use Rattle.sheet9.specs.Working.{AreSaid, IsSaid}
use Rattle.sheet9.proofs.sheets.taken_together.Given as goal

-- what was taken so far, with the sheets that are left, is what all say together
abbrev pub invariant-loop-other : goal.invariant-loop-other
invariant-loop-other l =
    (into_iter_len l.other-iterator ≡ length (into_iter_items l.other-iterator))
    × ((first : Sheet) (rest : List Sheet) → AreSaid (first ∷ rest) l.fn.all.items
    → (now : Sheet) × (left : List Sheet) × (fold together now left ≡ fold together first rest) × IsSaid now l.said × AreSaid left (into_iter_items l.other-iterator))
