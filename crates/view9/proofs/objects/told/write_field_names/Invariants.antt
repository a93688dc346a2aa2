-- names so far are items
use Rattle.view9.specs.Working.{AppendsItems}
use Rattle.view9.proofs.objects.told.write_field_names.Given as goal

abbrev pub invariant-loop-field : goal.invariant-loop-field
invariant-loop-field l = AppendsItems 0 l.fn.out l.out
