use Rattle.std.proofs.Common.{map, take}
use Rattle.std.specs.Fn.{FnReturnsAt}
use Rattle.program9.specs.Sheet.{AreTexts}
use Rattle.program9.proofs.sheet.read_texts.Given as goal

-- the texts of the sheets so far
abbrev pub invariant-loop-file : goal.invariant-loop-file
invariant-loop-file g l = AreTexts (FnReturnsAt g.G.Fn l.fn.opener) g.S.Read.remaining (take l.file-index l.fn.files) (map (λ t. t.items) l.texts.items)
