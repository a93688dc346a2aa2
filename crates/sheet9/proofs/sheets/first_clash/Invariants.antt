use Rattle.sheet9.proofs.Words.{List, Sheet, take, ◌≡◌}
use Rattle.sheet9.specs.Sheets.{EachAgrees}
use Rattle.sheet9.specs.Working.{AreSaid, IsSaid}
use Rattle.sheet9.proofs.sheets.first_clash.Given as goal

-- the sheets before this place agree with the one
abbrev pub invariant-loop-earlier : goal.invariant-loop-earlier
invariant-loop-earlier l =
    (l.place ≡ l.earlier-index) × ((sheets : List Sheet) (one : Sheet) → AreSaid sheets l.fn.all → IsSaid one l.fn.said → EachAgrees (take l.earlier-index sheets) one)
