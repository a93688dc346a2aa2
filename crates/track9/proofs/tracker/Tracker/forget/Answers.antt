use Rattle.track9.proofs.Words.{Possible, profile_of, states_rate}
use Rattle.track9.proofs.tracker.Tracker.forget.Goals as goal
use Rattle.track9.proofs.ForgetLemmas.{remains_forgotten, tracked_forgotten}
use Rattle.track9.proofs.PartLemmas.{possible_state}

pub invariant_of-self-2 : goal.invariant_of-self-2
invariant_of-self-2 g c = tracked_forgotten (profile_of c.self.inside.acting.deck c.self.inside.states) c.args.forgotten c.self.inside.presets c.self.inside.states c.forget.new.self c.self.invariant
    (c.in_ok-forget.ensures.ok c.self.inside.acting.deck)

pub returns-clause-reached : goal.returns-clause-reached
returns-clause-reached g c = rw (← c.self.view_is) (c.in_ok-forget.ensures.ok c.self.inside.acting.deck).reached

pub returns-clause-remains : goal.returns-clause-remains
returns-clause-remains g c =
    let v = c.self.inside.states in
    rw (← c.self.view_is) (remains_forgotten (profile_of c.self.inside.acting.deck v) c.args.forgotten (Possible v) (Possible c.forget.new.self)
    (λ s. possible_state (states_rate v) v s c.self.invariant.whole c.below_day.ensures) (c.in_ok-forget.ensures.ok c.self.inside.acting.deck).reached)

pub returns-clause-profile : goal.returns-clause-profile
returns-clause-profile g c = rw (← c.self.view_is) (c.in_ok-forget.ensures.ok c.self.inside.acting.deck).profile
