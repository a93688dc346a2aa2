use Rattle.track9.proofs.halves.Halves.take_lost.Goals as goal
use Rattle.track9.proofs.LoseLemmas.{taken_from_lost, whole_from_lost}

pub take_quietly-requires : goal.take_quietly-requires
take_quietly-requires g c = whole_from_lost c.args.acting.now.on c.args.self.now c.lose.new.self c.args.lost c.requires.lost c.lose.ensures c.requires.whole

pub returns-in-Ok-clause-ok : goal.returns-in-Ok-clause-ok
returns-in-Ok-clause-ok g c = taken_from_lost c.args.acting.now c.args.deed c.args.self.now c.lose.new.self c.take_quietly.new.self c.args.lost
    c.requires.lost c.lose.ensures c.requires.whole c.in-Ok.ensures.ok
