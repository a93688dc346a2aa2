use Rattle.std.proofs.lemmas.Result.{on_ok_weaker}
use Rattle.view9.proofs.JsonLines.{deeper}
use Rattle.view9.proofs.objects.told.Told.write.Goals as goal

pub returns-in-Modes : goal.returns-in-Modes
returns-in-Modes c = on_ok_weaker c.write_modes.result (λ written. deeper c.args.out.now c.write_modes.new.out written) c.write_modes.ensures

pub returns-in-Fields : goal.returns-in-Fields
returns-in-Fields c = on_ok_weaker c.write_fields.result (λ written. deeper c.args.out.now c.write_fields.new.out written) c.write_fields.ensures

pub returns-in-Bits : goal.returns-in-Bits
returns-in-Bits c = on_ok_weaker c.write_bits.result (λ written. deeper c.args.out.now c.write_bits.new.out written) c.write_bits.ensures
