use Rattle.track9.proofs.tracker.Tracker.touched.Goals as goal
use Rattle.track9.proofs.TouchLemmas.{touch_leads, touched_tracked}

pub invariant_of-result : goal.invariant_of-result
invariant_of-result g c = rw (c.copy-presets.ensures, c.in_ok-states.ensures)
    (touched_tracked c.self.inside.acting.deck c.args.kept.now c.self.inside.presets c.self.inside.states c.self.invariant c.below_day.ensures)

pub returns-clause-reached : goal.returns-clause-reached
returns-clause-reached g c = rw (← c.self.view_is, c.in_ok-states.ensures)
    (touch_leads c.self.inside.acting.deck c.args.kept.now c.self.inside.states c.self.invariant.whole c.below_day.ensures).reached

pub returns-clause-profile : goal.returns-clause-profile
returns-clause-profile g c = rw (← c.self.view_is, c.in_ok-states.ensures, c.copy-acting.ensures)
    (touch_leads c.self.inside.acting.deck c.args.kept.now c.self.inside.states c.self.invariant.whole c.below_day.ensures).profile
