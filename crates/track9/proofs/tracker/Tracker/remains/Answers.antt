use Rattle.track9.proofs.tracker.Tracker.remains.Goals as goal
use Rattle.track9.proofs.KnownLemmas.{remains_where}

pub returns : goal.returns
returns g c = rw (← c.self.view_is, c.remains.ensures) (remains_where c.self.inside.states c.self.invariant.whole)
