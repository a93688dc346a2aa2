use Rattle.deck9.proofs.Words.{arith}
use Rattle.deck9.proofs.RunSearch.{lengths_differ}
use Rattle.deck9.proofs.run.goes_on.Goals as goal

pub returns-then-exchanges-states : goal.returns-then-exchanges-states
returns-then-exchanges-states c = let differ = lengths_differ c.args.profile.now c.args.going c.args.first.now c.args.exchanges.now c.args.states.now in grind (arith, differ)
