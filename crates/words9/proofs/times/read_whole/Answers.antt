use Rattle.std.proofs.Common.{◌∙◌, arith, sym}
use Rattle.words9.proofs.ValueLemmas.{whole-low, whole-none}
use Rattle.words9.proofs.times.read_whole.Goals as goal

pub returns-in_err-read_count-clause-number : goal.returns-in_err-read_count-clause-number
returns-in_err-read_count-clause-number c =
    let none = whole-none c.args.digits.now (omega arith) (sym c.read_count.ensures ∙ c.in_err-read_count.was) in cc

pub returns-clause-low : goal.returns-clause-low
returns-clause-low c =
    rw c.from.ensures (whole-low c.args.digits.now c.in_ok-read_count.field-0 (omega arith) (sym c.read_count.ensures ∙ c.in_ok-read_count.was))
