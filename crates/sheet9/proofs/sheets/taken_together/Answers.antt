use Rattle.sheet9.proofs.sheets.taken_together.Goals as goal
use Rattle.sheet9.proofs.Words.{[], arith, length, sym, ◌∙◌, ◌≡◌}
use Rattle.std.proofs.Common.{ap, subst}
use Rattle.std.specs.List.{fold}
use Rattle.sheet9.specs.Sheets.{together}
use Rattle.sheet9.specs.Working.{AreSaid, IsSaid}
use Rattle.sheet9.proofs.SheetsLemmas.{first_left, none_left}

pub loop-other-preserved : goal.loop-other-preserved
loop-other-preserved c = (
  omega (arith, c.loop-other.invariant.0, c.in-Some.ensures.steps.1, ap length c.in-Some.ensures.steps.0),
  λ first rest said.
      let before = c.loop-other.invariant.1 first rest said in
      let left = first_left before.1 _ _ (subst (AreSaid before.1) c.in-Some.ensures.steps.0 before.4) in (
        together before.0 left.0,
        left.1,
        subst (λ l. fold together before.0 l ≡ fold together first rest) left.2 before.2,
        c.in_ok-take.ensures before.0 left.0 before.3 left.3,
        left.4,
      ),
)

pub returns : goal.returns
returns c = λ first rest said.
    let before = c.loop-other.invariant.1 first rest said in
    let none : before.1 ≡ [] = none_left before.1 _ before.4 (omega (arith, c.loop-other.invariant.0, c.in-None.ensures.steps.0)) in
    subst (λ s. IsSaid s c.loop-other.said) (sym (ap (fold together before.0) none) ∙ before.2) before.3
