use Rattle.std.proofs.lemmas.Result.{on_ok_weaker}
use Rattle.view9.proofs.JsonLines.{a_word}
use Rattle.view9.proofs.objects.told.write_text.Goals as goal

pub returns : goal.returns
returns c = on_ok_weaker c.string.result (λ ok. a_word 2 c.args.out.now c.string.new.self _ (ok, c.string.ensures.room.0)) c.string.ensures.ok
