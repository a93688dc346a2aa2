use Rattle.track9.proofs.Words.{halves_rate, on_ok_weaker}
use Rattle.track9.proofs.halves.Halves.take.Goals as goal
use Rattle.track9.proofs.LoseLemmas.{taken_as_quietly}

pub returns-in-NoRegister-clause-ok : goal.returns-in-NoRegister-clause-ok
returns-in-NoRegister-clause-ok g c = on_ok_weaker c.take_quietly.result
    (taken_as_quietly c.args.acting.now (halves_rate c.args.self.now) c.args.deed.now c.args.self.now c.take_quietly.new.self (rw c.going.ensures at c.in-NoRegister.is)) c.take_quietly.ensures.ok
