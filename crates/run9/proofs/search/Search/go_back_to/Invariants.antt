-- The states are those of a run after the first exchanges, to one of them these lead, and the marks are before it.
use Rattle.run9.proofs.Words.{AreMarks, drop, GoesBack, left_through, length, LeadsFrom, take, ◌≤◌}
use Rattle.run9.proofs.search.Search.go_back_to.Given as goal

abbrev pub invariant-loop-at : goal.invariant-loop-at
invariant-loop-at l = record {
  within : l.at ≤ length l.exchanges;
  marks : AreMarks l.self.lasting l.first l.exchanges l.at l.marks.items;
  back : GoesBack l.self.lasting l.first.profile (left_through l.self.lasting l.first.profile l.first.going (take l.at l.exchanges)) (LeadsFrom l.self.lasting l.first (take l.at l.exchanges)) (drop l.at l.exchanges) l.fn.end l.fn.states.items l.states.items l.state;
}

abbrev pub decreases-loop-at : goal.decreases-loop-at
decreases-loop-at l = l.at
