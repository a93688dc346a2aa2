use Rattle.judge9.proofs.follower.Follower.observe.Goals as goal
use Rattle.judge9.proofs.TurnSteps.{same_exchange}

pub returns-then-branch-clause-observed : goal.returns-then-branch-clause-observed
returns-then-branch-clause-observed c = λ e is.
    let told = c.in_ok-take_exchange.ensures in
    rw (same_exchange is c.completed_exchange-exchange.ensures)
    (record { reached = told.reached; profile = told.profile; going = told.going; remains = rw c.if-branch.true at told.remains })
