use Rattle.deck9.proofs.Words.{arith}
use Rattle.deck9.proofs.RunSearch.{goes_by}
use Rattle.deck9.proofs.run.goes.Goals as goal

pub returns-then-drifts_and_steps : goal.returns-then-drifts_and_steps
returns-then-drifts_and_steps c = let goes = goes_by c.args.profile.now c.args.going c.args.exchange.now c.args.before.now c.args.after.now in grind (arith, goes)

pub returns-in-None : goal.returns-in-None
returns-in-None c = let goes = goes_by c.args.profile.now c.args.going c.args.exchange.now c.args.before.now c.args.after.now in grind (arith, goes)

pub returns-then-before : goal.returns-then-before
returns-then-before c = let goes = goes_by c.args.profile.now c.args.going c.args.exchange.now c.args.before.now c.args.after.now in grind (arith, goes)

pub returns-else-before : goal.returns-else-before
returns-else-before c = let goes = goes_by c.args.profile.now c.args.going c.args.exchange.now c.args.before.now c.args.after.now in grind (arith, goes)
