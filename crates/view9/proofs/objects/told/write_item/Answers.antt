use Rattle.std.proofs.lemmas.Result.{on_ok_weaker}
use Rattle.view9.proofs.JsonLines.{an_item, no_more_items}
use Rattle.view9.proofs.objects.told.write_item.Goals as goal

pub returns-in_default : goal.returns-in_default
returns-in_default c = no_more_items 0 c.args.out.now

pub returns : goal.returns
returns c = on_ok_weaker c.string.result (λ ok. an_item 0 c.args.out.now c.string.new.self _ (ok, c.string.ensures.room.0)) c.string.ensures.ok
