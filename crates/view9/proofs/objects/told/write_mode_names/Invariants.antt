-- names so far are items
use Rattle.view9.specs.Working.{AppendsItems}
use Rattle.view9.proofs.objects.told.write_mode_names.Given as goal

abbrev pub invariant-loop-mode : goal.invariant-loop-mode
invariant-loop-mode l = AppendsItems 0 l.fn.out l.out
