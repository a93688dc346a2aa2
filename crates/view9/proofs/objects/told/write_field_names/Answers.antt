use Rattle.view9.proofs.JsonLines.{no_more_items, then_items}
use Rattle.view9.proofs.objects.told.write_field_names.Goals as goal

pub loop-field-init : goal.loop-field-init
loop-field-init c = no_more_items 0 c.args.out.now

pub loop-field-preserved : goal.loop-field-preserved
loop-field-preserved c = then_items 0 c.args.out.now c.loop-field.out c.write_item.new.out c.loop-field.invariant c.in_ok-write_item.ensures
