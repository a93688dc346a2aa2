use Rattle.deck9.proofs.Words.{MovesAndSteps, subst, sym}
use Rattle.deck9.proofs.LossLemmas.{drift_of, moves_of}
use Rattle.deck9.proofs.drift.drifts_and_steps.Goals as goal

pub returns : goal.returns
returns c = (
  λ is. drift_of c.args.profile.now c.args.going c.args.exchange.now c.args.before.now c.args.after.now
      (subst (λ v. MovesAndSteps c.args.profile.now c.args.going c.args.exchange.now v c.args.after.now) c.with_losses-left.ensures (c.moves_and_steps.ensures.0 is)),
  λ d. c.moves_and_steps.ensures.1 (subst (λ v. MovesAndSteps c.args.profile.now c.args.going c.args.exchange.now v c.args.after.now) (sym c.with_losses-left.ensures)
      (moves_of c.args.profile.now c.args.going c.args.exchange.now c.args.before.now c.args.after.now d)),
)
