use Rattle.std.proofs.Common.{arith, append_assoc}
use Rattle.std.proofs.lemmas.Grind.{common_steps}
use Rattle.text9.proofs.Grouped.{grouped_more}
use Rattle.text9.proofs.numbers.+put_grouped.Goals as goal

pub returns : goal.returns
returns t c = grind (arith, common_steps, append_assoc, grouped_more c.args.commas c.args.number (omega arith) (omega arith))
