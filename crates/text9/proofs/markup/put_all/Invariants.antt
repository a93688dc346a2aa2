use Rattle.std.proofs.Common.{drop, map, ◌++◌, ◌≡◌}
use Rattle.text9.specs.Markup.{joined}
use Rattle.text9.proofs.markup.put_all.Given as goal

-- what stands there, with the marks that are still to come, is the whole
abbrev pub invariant-loop-mark : goal.invariant-loop-mark
invariant-loop-mark l = l.text.items ++ joined (map (λ m. m.now) (drop l.mark-index l.marks)) ≡ l.fn.text.items ++ joined (map (λ m. m.now) l.marks)
