use Rattle.std.proofs.lemmas.Result.{on_ok_weaker}
use Rattle.view9.proofs.JsonLines.{a_list}
use Rattle.view9.proofs.objects.told.write_fields.Goals as goal

pub returns : goal.returns
returns c = on_ok_weaker c.end_array.result
    (λ ok. a_list 0 c.args.out.now c.begin_array.new.self c.write_field_names.new.out c.end_array.new.self (c.in_ok-begin_array.ensures.ok, c.in_ok-begin_array.ensures.room.0)
    c.in_ok-write_field_names.ensures (ok, c.end_array.ensures.room.0))
    c.end_array.ensures.ok
