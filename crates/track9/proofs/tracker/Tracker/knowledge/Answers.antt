use Rattle.track9.proofs.Words.{arith}
use Rattle.track9.proofs.tracker.Tracker.knowledge.Goals as goal
use Rattle.track9.proofs.PartLemmas.{some_live}

pub knowledge-requires-clause-some : goal.knowledge-requires-clause-some
knowledge-requires-clause-some g c = let (s, i) = c.requires in grind (arith, some_live c.self.inside.states s, i, c.self.view_is)

pub returns : goal.returns
returns g c = rw (← c.self.view_is) c.knowledge.ensures
