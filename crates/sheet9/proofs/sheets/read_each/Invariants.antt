use Rattle.sheet9.proofs.Words.{List, Sheet, take, ◌≡◌}
use Rattle.std.specs.Prelude.{map}
use Rattle.std.specs.Vec.{vec_len}
use Rattle.sheet9.specs.Sheets.{AreRead}
use Rattle.sheet9.specs.Working.{AreSaid}
use Rattle.sheet9.proofs.sheets.read_each.Given as goal

-- the texts so far are sheets that agree, and what they say was kept
abbrev pub invariant-loop-text : goal.invariant-loop-text
invariant-loop-text l =
    (vec_len l.all ≡ l.text-index) × ((sheets : List Sheet) × AreRead (take l.text-index (map (λ t. t.items) l.fn.texts)) sheets × AreSaid sheets l.all.items)
