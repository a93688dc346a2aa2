use Rattle.judge9.proofs.Words.{greatest_limit}
use Rattle.judge9.proofs.report.judge_parts_for.Goals as goal
use Rattle.judge9.proofs.Results.{judged_nothing}
use Rattle.judge9.proofs.TurnSteps.{handed}
use Rattle.judge9.proofs.Verdicts.{headed_of}

pub returns-in_err-judging-clause-told : goal.returns-in_err-judging-clause-told
returns-in_err-judging-clause-told g c = rw (handed c.from_residual.result c.from_residual.ensures.1) (judged_nothing c.args.view _ c.args.profile.now _ _).told

pub returns-clause-header : goal.returns-clause-header
returns-clause-header g c =
    let stands = c.in_ok-judging.ensures.stands in
    headed_of (g.R.Read.remaining c.args.reader) greatest_limit c.tell_totals-totals.result
    (rw (stands.same_scope, stands.same_profile, c.in_ok-judging.ensures.rows) at c.tell_totals-totals.ensures)
