use Rattle.deck9.proofs.LessLemmas.{no_more_ends, no_more_runs}
use Rattle.deck9.proofs.laws.a_sheet_that_forgets_less.Goals as goal

pub returns-clause-runs : goal.returns-clause-runs
returns-clause-runs c = λ p less more es forgets ways acts. no_more_runs p less more forgets ways acts es

pub returns-clause-ends : goal.returns-clause-ends
returns-clause-ends c = λ p less more es t forgets ways acts. no_more_ends p less more forgets ways acts es t
