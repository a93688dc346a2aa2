-- All are digits, or one is not; and what they come to.
use Rattle.capture9.proofs.Words.{arith, ◌∙◌}
use Rattle.capture9.proofs.LaneLemmas.{all-set, lowered-fit, not-set, sum-digits}
use Rattle.capture9.proofs.fields.eight_digits.Goals as goal

pub returns-then-not-values : goal.returns-then-not-values
returns-then-not-values c = let no = not-set c.args.digits.now c.told-digits c.fits-digits c.if-not-values.true in grind arith

pub overflow_cast-worths : goal.overflow_cast-worths
overflow_cast-worths c = lowered-fit c.args.digits.now _

pub returns : goal.returns
returns c =
    let all = all-set c.args.digits.now c.told-digits c.fits-digits c.if-not-values.false in
    let sum = c.from.ensures ∙ sum-digits c.args.digits.now c.told-digits all in
    rw (sum, all) (grind arith)
