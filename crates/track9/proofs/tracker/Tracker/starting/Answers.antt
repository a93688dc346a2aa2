use Rattle.track9.proofs.Words.{ap, untouched}
use Rattle.track9.proofs.tracker.Tracker.starting.Goals as goal
use Rattle.track9.proofs.StartLemmas.{from_rate, start_exactly, start_tracked}

pub invariant_of-result : goal.invariant_of-result
invariant_of-result g c = rw c.in_ok-states.ensures (start_tracked c.args.profile.now.rate c.args.start.now c.none.result)

pub returns-clause-states : goal.returns-clause-states
returns-clause-states g c = rw c.in_ok-states.ensures (λ s. start_exactly c.args.profile.now.deck c.args.profile.now.rate c.args.start.now s (rw (← c.in_ok-states.ensures) c.below_day.ensures))

pub returns-clause-profile : goal.returns-clause-profile
returns-clause-profile g c = rw (c.in_ok-states.ensures, c.at_first.ensures) (ap (untouched c.args.profile.now.deck) (from_rate c.args.profile.now.rate c.args.start.now))
