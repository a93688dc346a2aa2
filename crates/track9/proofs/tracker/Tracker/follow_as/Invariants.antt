use Rattle.track9.proofs.Words.{FollowsFrom, take}
use Rattle.track9.proofs.tracker.Tracker.follow_as.Given as goal

abbrev pub invariant-loop-exchange : goal.invariant-loop-exchange
invariant-loop-exchange g l = FollowsFrom l.fn.lasting l.fn.self (take l.exchange-index l.exchanges) l.self
