-- A record of three fields has one at each of the places 0, 1 and 2.
use Rattle.capture9.proofs.Words.{arith, lit≤}
use Rattle.capture9.proofs.FieldLemmas.{not-three, three}
use Rattle.capture9.proofs.fields.three_columns.Goals as goal

pub returns-in_err-get : goal.returns-in_err-get
returns-in_err-get c = rw c.from_residual.ensures (not-three _ 0 (lit≤ tt) c.in_err-get.ensures.value)

pub returns-in_err-get-2 : goal.returns-in_err-get-2
returns-in_err-get-2 c = rw c.from_residual-in_err-get-2.ensures (not-three _ 1 (lit≤ tt) c.in_err-get-2.ensures.value)

pub returns-in_err-get-3 : goal.returns-in_err-get-3
returns-in_err-get-3 c = rw c.from_residual-in_err-get-3.ensures (not-three _ 2 (lit≤ tt) c.in_err-get-3.ensures.value)

pub returns : goal.returns
returns c = three _ _ _ _ (omega arith) c.in_ok-get.ensures.value c.in_ok-get-2.ensures.value c.in_ok-get-3.ensures.value
