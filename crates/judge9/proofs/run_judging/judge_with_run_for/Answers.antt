use Rattle.judge9.specs.RunVerdict.{judged_of}
use Rattle.judge9.proofs.run_judging.judge_with_run_for.Goals as goal
use Rattle.judge9.proofs.Words.{None, View}
use Rattle.judge9.proofs.Results.{judged_nothing}
use Rattle.judge9.proofs.TurnSteps.{handed}
use Rattle.judge9.proofs.Verdicts.{answers_of, right, up_to_break}

pub returns-in_err-judging-clause-run : goal.returns-in_err-judging-clause-run
returns-in_err-judging-clause-run g c =
    rw (handed c.from_residual.result c.from_residual.ensures.1)
    (let told = (judged_nothing View.Verdict (up_to_break c.args.beginning) c.args.profile.now _ None).told in
    record { rows = told.rows; is_known = told.is_known; of_a_text = told.of_a_text; answer = tt; run = tt })

pub returns-clause-answers : goal.returns-clause-answers
returns-clause-answers g c =
    let stands = c.in_ok-judging.ensures.stands in
    let judged = rw (stands.same_scope, stands.same_profile, c.in_ok-judging.ensures.rows) at c.find_run-verdict.ensures in
    answers_of (g.R.Read.remaining c.args.reader) (judged_of c.find_run-verdict.result) judged.judged

pub returns-clause-run : goal.returns-clause-run
returns-clause-run g c =
    let stands = c.in_ok-judging.ensures.stands in
    let judged = rw (stands.same_scope, stands.same_profile, c.in_ok-judging.ensures.rows) at c.find_run-verdict.ensures in
    let told = judged.judged.told in
    record { rows = told.rows; is_known = told.is_known; of_a_text = told.of_a_text; answer = right (judged_of c.find_run-verdict.result) judged.judged; run = judged.run }
