use Rattle.std.proofs.lemmas.Result.{IfOk-weaker}
use Rattle.track9.proofs.Words.{arith}
use Rattle.track9.proofs.tracker.Tracker.take_states.Goals as goal
use Rattle.track9.proofs.ForgetLemmas.{goes_alone}

pub returns-in-Nothing-clause-reached : goal.returns-in-Nothing-clause-reached
returns-in-Nothing-clause-reached g c = IfOk-weaker c.observe.result _ _
    (λ b reached. goes_alone c.args.self.now.profile c.args.self.now.going c.args.exchange.now _ _ (grind (arith, c.in-Nothing.ensures, c.self.view_is)) reached) c.observe.ensures.reached
