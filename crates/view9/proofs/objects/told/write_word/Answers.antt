use Rattle.std.proofs.lemmas.Result.{on_ok_weaker}
use Rattle.view9.proofs.JsonLines.{a_member, a_word, no_more_members}
use Rattle.view9.proofs.objects.told.write_word.Goals as goal

pub returns-in_default : goal.returns-in_default
returns-in_default c = no_more_members 1 c.args.out.now

pub returns : goal.returns
returns c = on_ok_weaker c.string.result
    (λ ok. a_member 1 c.args.out.now c.key.new.self c.string.new.self c.args.name.now (c.in_ok-key.ensures.ok, c.in_ok-key.ensures.room.0)
    (a_word 1 c.key.new.self c.string.new.self _ (ok, c.string.ensures.room.0)))
    c.string.ensures.ok
