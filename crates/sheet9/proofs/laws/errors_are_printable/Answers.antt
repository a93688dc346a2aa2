use Rattle.sheet9.proofs.PrintLemmas.{error_prints}
use Rattle.sheet9.proofs.laws.errors_are_printable.Goals as goal

pub returns : goal.returns
returns c = error_prints
