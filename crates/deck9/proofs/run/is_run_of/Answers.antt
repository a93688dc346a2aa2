use Rattle.deck9.proofs.Words.{refl}
use Rattle.deck9.proofs.RunSearch.{run_none}
use Rattle.deck9.proofs.run.is_run_of.Goals as goal

pub returns-in-None-None : goal.returns-in-None-None
returns-in-None-None c = (
  λ t. run_none c.args.profile.now c.args.exchanges.now c.args.states.now c.in-None-None.ensures.cases c.in-None-None.ensures'.cases,
  λ r.
      refl,
)
