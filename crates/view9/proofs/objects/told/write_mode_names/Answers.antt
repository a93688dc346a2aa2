use Rattle.view9.proofs.JsonLines.{no_more_items, then_items}
use Rattle.view9.proofs.objects.told.write_mode_names.Goals as goal

pub loop-mode-init : goal.loop-mode-init
loop-mode-init c = no_more_items 0 c.args.out.now

pub loop-mode-preserved : goal.loop-mode-preserved
loop-mode-preserved c = then_items 0 c.args.out.now c.loop-mode.out c.write_item.new.out c.loop-mode.invariant c.in_ok-write_item.ensures
