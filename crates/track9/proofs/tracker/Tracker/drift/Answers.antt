use Rattle.track9.proofs.Words.{[], profile_of, refl}
use Rattle.track9.proofs.tracker.Tracker.drift.Goals as goal
use Rattle.track9.proofs.DeedLemmas.{nothing_reaches}

pub returns-clause-reached : goal.returns-clause-reached
returns-clause-reached g c = rw (← c.self.view_is) (nothing_reaches (profile_of c.self.inside.acting.deck c.self.inside.states) c.self.inside.acting.on _ _
    c.in_ok-drift.ensures.ok.reached)

pub returns-clause-remains : goal.returns-clause-remains
returns-clause-remains g c =
    let r = nothing_reaches (profile_of c.self.inside.acting.deck c.self.inside.states) c.self.inside.acting.on _ _ c.in_ok-drift.ensures.ok.reached in
    rw (← c.self.view_is) (λ w. (w.0, r.1 w.0 w.0 w.1 ([], refl)), λ w. let a = r.0 w.0 w.1 in (a.0, a.1))
