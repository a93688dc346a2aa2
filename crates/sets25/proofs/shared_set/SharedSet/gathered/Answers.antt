-- With no base all members are its own.
use Rattle.std.proofs.lemmas.Result.{IfOk-weaker}
use Rattle.sets25.proofs.Lemmas.{same_rate, union-empty, ◌∙◌}
use Rattle.sets25.proofs.shared_set.SharedSet.gathered.Goals as goal

pub returns-in_default : goal.returns-in_default
returns-in_default c = rw (c.in_default.is, union-empty) c.copy.ensures

-- The members of the base are times of the same day.
pub returns-clause-rate : goal.returns-clause-rate
returns-clause-rate c =
    let shared = rw c.in-Some.is at c.args.self.now.same_day in
    IfOk-weaker c.with_all.result _ _ (λ s told. told ∙ (rw c.deref.ensures at c.in_ok-copy.ensures.rate) ∙ same_rate _ _ shared) c.with_all.ensures.rate
