use Rattle.why9.proofs.Words.{IfOk-weaker}
use Rattle.why9.proofs.question.believe.Goals as goal

pub returns-clause-reached : goal.returns-clause-reached
returns-clause-reached c = IfOk-weaker c.take.result _ _ (λ b reached. (
  λ t new. let w = reached.0 t new in (w.0, w.1, (w.2.1.0, w.2.0, w.2.1.1, w.2.1.2, w.2.2)),
  λ s t old (d, u, drift, does, forgets). reached.1 s t old (u, (d, drift, does), forgets),
)) c.take.ensures.reached
