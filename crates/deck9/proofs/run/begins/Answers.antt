use Rattle.deck9.proofs.Words.{arith}
use Rattle.deck9.proofs.RunSearch.{begins_alone, begins_touched}
use Rattle.deck9.proofs.run.begins.Goals as goal

pub returns-in-None : goal.returns-in-None
returns-in-None c = let begins = begins_alone c.args.profile.now c.args.exchange.now c.args.after.now c.in-None.is in grind (arith, begins)

pub returns-else-steps_from_some : goal.returns-else-steps_from_some
returns-else-steps_from_some c = let begins = begins_touched c.args.profile.now c.args.exchange.now c.args.after.now c.in-Allowed.is in grind (arith, begins)
