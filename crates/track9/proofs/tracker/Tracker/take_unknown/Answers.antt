use Rattle.track9.proofs.tracker.Tracker.take_unknown.Goals as goal

pub returns-clause-remains : goal.returns-clause-remains
returns-clause-remains g c = rw c.go_on_after_unknown.ensures c.in_ok-take_states_unknown.ensures.remains
