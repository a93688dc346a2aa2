use Rattle.view9.proofs.JsonLines.{no_more_items, then_items}
use Rattle.view9.proofs.objects.told.write_bit_names.Goals as goal

pub loop-flag-init : goal.loop-flag-init
loop-flag-init c = no_more_items 0 c.args.out.now

pub loop-flag-preserved : goal.loop-flag-preserved
loop-flag-preserved c = then_items 0 c.args.out.now c.loop-flag.out c.write_item.new.out c.loop-flag.invariant c.in_ok-write_item.ensures
