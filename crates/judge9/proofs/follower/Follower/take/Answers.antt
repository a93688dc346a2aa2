use Rattle.judge9.proofs.Words.{refl}
use Rattle.judge9.proofs.follower.Follower.take.Goals as goal
use Rattle.judge9.proofs.TurnSteps.{answering_late, completing, took-observed}

pub returns-in-Ok-LateReply : goal.returns-in-Ok-LateReply
returns-in-Ok-LateReply c =
    let told = rw c.in-Ok-LateReply.field-0-is at (c.in-Ok-LateReply.ensures.takes c.requires.no_reason) in
    let takes = rw (answering_late told.0 told.1) at told.2 in
    (refl, record { takes = takes; same_tracker = refl })

pub returns-in-Ok-Exchange : goal.returns-in-Ok-Exchange
returns-in-Ok-Exchange c =
    let told = rw c.in-Ok-Exchange.field-0-is at (c.in-Ok-Exchange.ensures.takes c.requires.no_reason) in
    let whole = completing told.0 told.1 in
    let takes = rw whole.1 at told.2 in
    took-observed c.args.self.now c.observe.new.self c.observe.result takes c.observe.ensures.pairer (c.observe.ensures.observed whole.0 takes.exchange)
