use Rattle.std.proofs.lemmas.Result.{on_ok_weaker}
use Rattle.view9.proofs.JsonLines.{an_object}
use Rattle.view9.proofs.objects.told.write_says.Goals as goal

pub returns : goal.returns
returns c = on_ok_weaker c.end_object.result
    (λ ok. an_object 1 c.args.out.now c.begin_object.new.self c.write_status.new.out c.end_object.new.self (c.in_ok-begin_object.ensures.ok, c.in_ok-begin_object.ensures.room.0)
    c.in_ok-write_status.ensures (ok, c.end_object.ensures.room.0))
    c.end_object.ensures.ok
