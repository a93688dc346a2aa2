use Rattle.track9.proofs.Words.{on_ok_weaker}
use Rattle.track9.proofs.states.States.forget_by_hand.Goals as goal
use Rattle.track9.proofs.ForgetLemmas.{forget_panel}

pub returns-in-Everything-clause-ok : goal.returns-in-Everything-clause-ok
returns-in-Everything-clause-ok g c = on_ok_weaker c.forget_all.result (λ new. rw new (rw c.in-Everything.is (forget_panel c.args.self.now c.requires.hands c.requires.whole))) c.forget_all.ensures.ok
