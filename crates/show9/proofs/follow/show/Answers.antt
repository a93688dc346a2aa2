use Rattle.report9.specs.declared.error.JudgeError.TheVariants as error
use Rattle.judge9.proofs.TurnSteps.{handed}
use Rattle.show9.proofs.Shown.{checked_ending, checked_fault, checked_view}
use Rattle.show9.proofs.follow.show.Goals as goal

pub returns-in_err-judging : goal.returns-in_err-judging
returns-in_err-judging g c =
    rw (handed c.from_residual.result c.from_residual.ensures.1)
    (checked_view c.args.of.profile.now c.args.of.scope.beginning (g.R.Read.remaining c.args.reader) c.args.of.scope.extent error.OutOfMemory tt)

pub returns-in_err-shown : goal.returns-in_err-shown
returns-in_err-shown g c =
    let stands = c.in_ok-judging.ensures.stands in
    rw (handed c.from_residual-in_err-shown.result c.from_residual-in_err-shown.ensures.1)
    (checked_fault c.args.of.scope.beginning (g.R.Read.remaining c.args.reader) c.args.of.scope.extent c.in_err-shown.field-0.0
    (rw (stands.same_scope, stands.same_profile, c.in_ok-judging.ensures.rows) at c.in_err-shown.ensures))

pub returns-in_err-of_view : goal.returns-in_err-of_view
returns-in_err-of_view g c =
    rw (handed c.from_residual-in_err-of_view.result c.from_residual-in_err-of_view.ensures.1)
    (checked_view c.args.of.profile.now c.args.of.scope.beginning (g.R.Read.remaining c.args.reader) c.args.of.scope.extent c.in_err-of_view.field-0.0 c.in_err-of_view.ensures)

pub returns : goal.returns
returns g c =
    let stands = c.in_ok-judging.ensures.stands in
    rw c.ending_of-ending.ensures
    (checked_ending c.args.of.scope.beginning (g.R.Read.remaining c.args.reader) c.args.of.scope.extent _
    (rw (stands.same_scope, stands.same_profile, c.in_ok-judging.ensures.rows) at c.in_ok-shown.ensures))
