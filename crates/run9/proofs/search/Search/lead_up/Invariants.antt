use Rattle.run9.proofs.Words.{AreMarks, last_mark, place_of, ◌+◌, ◌-◌}
use Rattle.run9.proofs.search.Search.lead_up.Given as goal

abbrev pub invariant-loop-at : goal.invariant-loop-at
invariant-loop-at l = AreMarks l.self.lasting l.first l.exchanges (l.at + 1) l.marks.items

abbrev pub decreases-loop-at : goal.decreases-loop-at
decreases-loop-at l = l.at - place_of (last_mark l.marks.items)
