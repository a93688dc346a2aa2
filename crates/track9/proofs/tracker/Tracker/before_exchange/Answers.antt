use Rattle.track9.proofs.tracker.Tracker.before_exchange.Goals as goal

pub returns-clause-some : goal.returns-clause-some
returns-clause-some g c = rw (← c.self.view_is) c.before_exchange.ensures.some

pub returns-clause-none : goal.returns-clause-none
returns-clause-none g c = rw (← c.self.view_is) c.before_exchange.ensures.none
