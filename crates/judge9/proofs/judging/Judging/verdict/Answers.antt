use Rattle.judge9.proofs.Words.{refl, sym, ◌∙◌}
use Rattle.judge9.proofs.judging.Judging.verdict.Goals as goal
use Rattle.judge9.specs.Standing.{totals_of}
use Rattle.judge9.proofs.Endings.{not_broken}

pub returns-in-Some : goal.returns-in-Some
returns-in-Some g c = rw (c.totals-totals.ensures, (c.broken.ensures c.in-Some.broken).0 c.in-Some.is) refl

pub returns-in-None : goal.returns-in-None
returns-in-None g c = rw (c.saturating_sub.ensures, c.totals-totals.ensures) (not_broken (totals_of c.args.self.now) c.args.self.now.stage (λ b at. let some = sym c.in-None.is ∙ (c.broken.ensures b).1 at in cc))
