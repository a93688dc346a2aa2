use Rattle.std.proofs.Common.{inl}
use Rattle.program9.proofs.sheet.told_of.Goals as goal

pub returns-in-Ok : goal.returns-in-Ok
returns-in-Ok c = rw c.in-Refused.is (inl (c.in-Ok.file, c.in-Ok.ensures, c.new-in-Ok.ensures))

pub returns-in-Ok-clashing : goal.returns-in-Ok-clashing
returns-in-Ok-clashing c =
    rw c.in-Clash.is (inl (c.in-Ok-clashing.told, c.in-Ok-clashing.ensures.later, c.in-Ok-clashing.ensures.earlier, c.new-in-Ok-clashing.ensures))
