use Rattle.track9.proofs.Words.{[], deed_passed, inl, profile_of, refl}
use Rattle.track9.proofs.tracker.Tracker.pass.Goals as goal
use Rattle.track9.proofs.DeedLemmas.{passed_counts, passed_reaches}
use Rattle.track9.proofs.KnownLemmas.{tracked_next}

pub invariant_of-self-2 : goal.invariant_of-self-2
invariant_of-self-2 g c = rw c.count_command.ensures (rw (passed_counts c.self.inside.acting.deck c.args.command.now c.self.inside.presets) at
    (tracked_next (deed_passed c.self.inside.acting.deck c.args.command.now) c.self.inside.states c.take.new.self _ c.self.inside.acting.on c.self.inside.presets c.self.invariant c.in_ok-take.ensures.ok))

pub returns-clause-reached : goal.returns-clause-reached
returns-clause-reached g c = rw (← c.self.view_is) (passed_reaches (profile_of c.self.inside.acting.deck c.self.inside.states) c.self.inside.acting.on c.args.command.now _ _
    c.in_ok-take.ensures.ok.reached)

pub returns-clause-remains : goal.returns-clause-remains
returns-clause-remains g c =
    let r = passed_reaches (profile_of c.self.inside.acting.deck c.self.inside.states) c.self.inside.acting.on c.args.command.now _ _ c.in_ok-take.ensures.ok.reached in
    rw (← c.self.view_is) (λ w. (w.0, r.1 w.0 w.0 w.1 (w.0, ([], refl), inl refl)), λ w. let a = r.0 w.0 w.1 in (a.0, a.1))
