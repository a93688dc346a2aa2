use Rattle.block9.proofs.Words.{arith, refl}
use Rattle.block9.proofs.laws.nak_names.Goals as goal

pub returns-clause-parity : goal.returns-clause-parity
returns-clause-parity c = (2, omega arith, refl)

pub returns-clause-overrun : goal.returns-clause-overrun
returns-clause-overrun c = (3, omega arith, refl)

pub returns-clause-framing : goal.returns-clause-framing
returns-clause-framing c = (4, omega arith, refl)
