use Rattle.judge9.proofs.telling.Telling.put_late.Goals as goal
use Rattle.judge9.proofs.WhySteps.{follows_ok, put_alone}

pub returns-in_ok-why-in-Why-clause-text : goal.returns-in_ok-why-in-Why-clause-text
returns-in_ok-why-in-Why-clause-text g c =
    rw c.in-Why.is (follows_ok c.put_why_for.result (λ is. (c.in_ok-why-in-Why.why, c.in_ok-why-in-Why.ensures, put_alone _ _ _ c.requires is)) c.put_why_for.ensures)
