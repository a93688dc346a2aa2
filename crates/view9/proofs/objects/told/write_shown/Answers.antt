use Rattle.std.proofs.lemmas.Result.{on_ok_weaker}
use Rattle.view9.proofs.JsonLines.{a_member, no_more_members}
use Rattle.view9.proofs.objects.told.write_shown.Goals as goal

pub returns-in_default : goal.returns-in_default
returns-in_default c = no_more_members 1 c.args.out.now

pub returns : goal.returns
returns c = on_ok_weaker c.write_modes.result
    (λ modes. a_member 1 c.args.out.now c.key.new.self c.write_modes.new.out _ (c.in_ok-key.ensures.ok, c.in_ok-key.ensures.room.0) modes)
    c.write_modes.ensures
