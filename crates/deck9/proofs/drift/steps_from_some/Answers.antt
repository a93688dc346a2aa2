-- A step, and what is forgotten besides, lead to states of the day alone.
use Rattle.deck9.proofs.Words.{false≢true, sym, ◌∙◌}
use Rattle.deck9.proofs.RestLemmas.{steps_valid}
use Rattle.deck9.proofs.drift.steps_from_some.Goals as goal

pub returns-else-is_of : goal.returns-else-is_of
returns-else-is_of c = (
  λ is. absurd (false≢true (sym c.if-is_of.false ∙ is)),
  λ w. c.is_of.ensures.1 (steps_valid c.args.profile.now c.args.exchange.now w.0 c.args.after.now w.1 w.3),
)
