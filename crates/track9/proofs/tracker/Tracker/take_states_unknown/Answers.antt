use Rattle.track9.proofs.Words.{arith, on_ok_weaker}
use Rattle.track9.proofs.tracker.Tracker.take_states_unknown.Goals as goal
use Rattle.track9.proofs.ForgetLemmas.{passes_alone}

pub returns-in-Nothing-clause-reached : goal.returns-in-Nothing-clause-reached
returns-in-Nothing-clause-reached g c = on_ok_weaker c.pass.result
    (passes_alone c.args.self.now.profile c.args.self.now.going c.args.exchange.now _ _ (grind (arith, c.in-Nothing.ensures, c.self.view_is))) c.pass.ensures.reached
