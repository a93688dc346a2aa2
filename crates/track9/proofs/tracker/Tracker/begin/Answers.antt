use Rattle.track9.proofs.tracker.Tracker.begin.Goals as goal
use Rattle.track9.proofs.PanelLemmas.{first_tracked}
use Rattle.track9.proofs.PartLemmas.{first_exactly}

pub invariant_of-result : goal.invariant_of-result
invariant_of-result g c = rw c.in_ok-first.ensures (first_tracked c.args.rate c.args.hands c.none.result)

pub returns-clause-states : goal.returns-clause-states
returns-clause-states g c = rw c.in_ok-first.ensures (first_exactly (record { rate = c.args.rate; hands = c.args.hands; deck = c.args.acting.deck }))
