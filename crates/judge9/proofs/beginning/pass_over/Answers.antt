use Rattle.judge9.proofs.Words.{[], GivesAll, JudgeError, last_of, LineByte, List, NoneBegins, Option, Progress, refl, Result, sym, ◌++◌, ◌∙◌, ◌∷◌}
use Rattle.judge9.specs.Working.Beginnings.{ComesThen, PassesOver}
use Rattle.judge9.proofs.beginning.pass_over.Goals as goal
use Rattle.judge9.proofs.PartSteps.{gives-more, last-more, none-more}
use Rattle.judge9.proofs.TurnSteps.{handed}

over : {R : Type 0} {old new : Progress R} (mid : Progress R) {last : Option LineByte} {came : Result (Option LineByte) JudgeError} (passed : List LineByte)
    → NoneBegins last passed → GivesAll old passed mid → ComesThen (last_of last passed) mid came new → PassesOver old last came new
over mid passed none gives then = record { passed = passed; none_begins = none; mid = mid; gives = gives; then = then }

pub returns-in_err-next : goal.returns-in_err-next
returns-in_err-next g c =
    let so_far = c.passed.invariant in
    over c.passed.rows so_far.passed so_far.none_begins so_far.gives
    (rw (handed c.from_residual.result c.from_residual.ensures.1) (c.in_err-next.field-0.0, c.in_err-next.ensures.refused, refl))

pub returns-in_default : goal.returns-in_default
returns-in_default g c =
    let so_far = c.passed.invariant in over c.passed.rows so_far.passed so_far.none_begins so_far.gives (rw c.in_default.is at c.in_ok-next.ensures.ended)

pub returns-then-may_begin : goal.returns-then-may_begin
returns-then-may_begin g c =
    let so_far = c.passed.invariant in
    over c.passed.rows so_far.passed so_far.none_begins so_far.gives
    (rw so_far.is_last at (sym c.may_begin.ensures ∙ c.if-may_begin.true), rw c.in-Some.is at c.in_ok-next.ensures.given)

pub passed-preserved : goal.passed-preserved
passed-preserved g c =
    let so_far = c.passed.invariant in
    let none = rw so_far.is_last at (sym c.may_begin.ensures ∙ c.if-may_begin.false) in
    record {
      passed = so_far.passed ++ c.in-Some.next ∷ [];
      none_begins = none-more _ so_far.passed _ so_far.none_begins none;
      gives = gives-more _ _ _ so_far.passed so_far.gives (rw c.in-Some.is at c.in_ok-next.ensures.given);
      is_last = sym (last-more _ so_far.passed _);
    }
