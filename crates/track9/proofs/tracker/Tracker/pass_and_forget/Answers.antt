use Rattle.track9.proofs.Words.{arith, AreReached, Forgets, Possible, subst}
use Rattle.track9.proofs.tracker.Tracker.pass_and_forget.Goals as goal
use Rattle.track9.proofs.ForgetLemmas.{passes_reached}

pub returns-clause-reached : goal.returns-clause-reached
returns-clause-reached g c =
    let p = c.args.self.now.profile in
    let mid = Possible c.pass.new.self.states in
    let new = Possible c.forget.new.self.states in
    passes_reached p c.args.self.now.going c.args.exchange.now (Possible c.args.self.now.states) mid new c.in_ok-pass.ensures.reached
    (subst (λ f. AreReached mid (Forgets p f) new) c.requires (subst (λ p. AreReached mid (Forgets p c.args.forgotten) new) c.in_ok-pass.ensures.profile c.in_ok-forget.ensures.reached))

pub returns-clause-remains : goal.returns-clause-remains
returns-clause-remains = grind arith
