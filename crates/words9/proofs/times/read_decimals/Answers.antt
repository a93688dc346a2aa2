use Rattle.std.proofs.Common.{◌∙◌, sym}
use Rattle.words9.proofs.ValueLemmas.{decimals-none}
use Rattle.words9.proofs.times.read_decimals.Goals as goal

pub returns-in_err-read_count-clause-number : goal.returns-in_err-read_count-clause-number
returns-in_err-read_count-clause-number c =
    let none = decimals-none c.args.digits.now (sym c.read_count.ensures ∙ c.in_err-read_count.was) in cc
