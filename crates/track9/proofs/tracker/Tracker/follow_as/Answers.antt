use Rattle.track9.proofs.Words.{take_all}
use Rattle.track9.proofs.tracker.Tracker.follow_as.Goals as goal
use Rattle.track9.proofs.FollowLemmas.{from-next, from-start}

pub loop-exchange-init : goal.loop-exchange-init
loop-exchange-init g c = from-start c.args.lasting c.args.self.now

pub loop-exchange-preserved : goal.loop-exchange-preserved
loop-exchange-preserved g c =
    (from-next c.args.lasting c.args.self.now c.args.exchanges.now c.loop-exchange.exchange-index c.exchange-item.result c.loop-exchange.self c.take_as.new.self
    c.loop-exchange-test.true c.exchange-item.is c.loop-exchange.invariant c.in_ok-take_as.ensures.reached c.in_ok-take_as.ensures.profile c.in_ok-take_as.ensures.going).1

pub returns : goal.returns
returns g c = rw (take_all c.loop-exchange.exchange-index c.args.exchanges.now c.loop-exchange-test.false) at c.loop-exchange.invariant
