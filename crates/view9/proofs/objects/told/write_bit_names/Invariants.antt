-- names so far are items
use Rattle.view9.specs.Working.{AppendsItems}
use Rattle.view9.proofs.objects.told.write_bit_names.Given as goal

abbrev pub invariant-loop-flag : goal.invariant-loop-flag
invariant-loop-flag l = AppendsItems 0 l.fn.out l.out
