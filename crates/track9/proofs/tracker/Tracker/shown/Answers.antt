use Rattle.track9.proofs.Words.{arith}
use Rattle.track9.proofs.tracker.Tracker.shown.Goals as goal
use Rattle.track9.proofs.KnownLemmas.{has_shown}

pub returns-clause-modes : goal.returns-clause-modes
returns-clause-modes g c m = let h = has_shown c.self.inside.states c.self.invariant.whole in
    grind (arith, c.without_other_bits.ensures.has m, c.shown.ensures, h.back m, h.there, c.self.view_is)
