use Rattle.std.proofs.Common.{rules}
use Rattle.std.proofs.lemmas.Result.{on_ok_weaker}
use Rattle.json.proofs.Printed.Decimals.{IsNumber-decimal}
use Rattle.view9.proofs.JsonLines.{a_number}
use Rattle.view9.proofs.objects.told.write_count.Goals as goal

pub returns : goal.returns
returns c = on_ok_weaker c.u64.result
    (λ ok. a_number c.args.out.now c.u64.new.self _ (IsNumber-decimal c.args.count (search rules)) (ok, c.u64.ensures.room.0))
    c.u64.ensures.ok
