use Rattle.track9.proofs.Words.{arith, sym, ◌∙◌}
use Rattle.track9.proofs.part.Part.known.Goals as goal

pub returns-then-is_some : goal.returns-then-is_some
returns-then-is_some = grind arith

pub returns-else-is_some : goal.returns-else-is_some
returns-else-is_some g c = sym (c.requires.1 c.args.register).0 ∙ (rw c.entries-entries.ensures at (sym c.is_some.ensures ∙ c.if-is_some.false))
