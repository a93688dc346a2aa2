use Rattle.judge9.proofs.report.judge_for.Goals as goal
use Rattle.judge9.proofs.Words.{Err, JudgeError, None}
use Rattle.judge9.proofs.Results.{judged_nothing}
use Rattle.judge9.proofs.TurnSteps.{handed}
use Rattle.judge9.proofs.Verdicts.{answers_of, up_to_break}

pub returns-in_err-judging-clause-answers : goal.returns-in_err-judging-clause-answers
returns-in_err-judging-clause-answers g c =
    rw (handed c.from_residual.result c.from_residual.ensures.1) (answers_of (g.R.Read.remaining c.args.reader) (Err JudgeError.OutOfMemory)
    (judged_nothing c.args.view (up_to_break c.args.beginning) c.args.profile.now _ None))

pub returns-in_err-judging-clause-told : goal.returns-in_err-judging-clause-told
returns-in_err-judging-clause-told g c = rw (handed c.from_residual.result c.from_residual.ensures.1) (judged_nothing c.args.view _ c.args.profile.now _ _).told

pub returns-clause-answers : goal.returns-clause-answers
returns-clause-answers g c =
    let stands = c.in_ok-judging.ensures.stands in
    answers_of (g.R.Read.remaining c.args.reader) c.tell_verdict-verdict.result
    (rw (stands.same_scope, stands.same_profile, c.in_ok-judging.ensures.rows) at c.tell_verdict-verdict.ensures)
