use Rattle.deck9.proofs.Words.{arith}
use Rattle.deck9.proofs.EffectLemmas.{step_between}
use Rattle.deck9.proofs.step.steps.Goals as goal

pub returns-else-by_made : goal.returns-else-by_made
returns-else-by_made c = let between = step_between c.args.profile.now c.args.exchange.now c.args.before.now c.args.after.now in grind (arith, between)
