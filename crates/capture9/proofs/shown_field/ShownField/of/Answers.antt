-- The zeros that are left behind the bytes of a field fill it up.
use Rattle.capture9.proofs.Words.{arith}
use Rattle.capture9.proofs.ShownLemmas.{shown}
use Rattle.capture9.proofs.shown_field.ShownField.of.Goals as goal

pub returns : goal.returns
returns c = shown c.args.field.now _ c.min-len.result (grind (arith, c.min-len.ensures)) (grind (arith, c.copy_from_slice.ensures.after))
