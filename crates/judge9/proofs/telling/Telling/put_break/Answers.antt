use Rattle.judge9.proofs.telling.Telling.put_break.Goals as goal
use Rattle.judge9.proofs.WhySteps.{follows_ok, put_alone}

pub returns-in_ok-why-in-Why-clause-text : goal.returns-in_ok-why-in-Why-clause-text
returns-in_ok-why-in-Why-clause-text g c =
    let says = rw c.requires.same at c.in_ok-why-in-Why.ensures in
    rw c.in-Why.is (follows_ok c.put_why_for.result (λ is. (c.in_ok-why-in-Why.why, says, put_alone _ _ _ c.requires.empty is)) c.put_why_for.ensures)
