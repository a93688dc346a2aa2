use Rattle.judge9.proofs.Words.{ap, refl, sym, Totals, ◌∙◌}
use Rattle.judge9.proofs.run_judging.find_run.Goals as goal
use Rattle.judge9.proofs.RunLemmas.{run_found, run_missing, some_left}
use Rattle.judge9.proofs.TurnSteps.{handed}

pub returns-in_err-keep_all : goal.returns-in_err-keep_all
returns-in_err-keep_all g c =
    let (other, judged) = c.in_err-keep_all.ensures in
    rw (handed c.from_residual.result c.from_residual.ensures.1) (record { judged = judged; run = tt; no_write = λ q. other (cc) })

pub returns-in-No : goal.returns-in-No
returns-in-No g c = run_missing c.requires.first c.in_ok-keep_all.ensures c.in-No.at c.in-No.reason (sym c.in-No.is ∙ c.verdict.ensures)

pub states_of_run-requires-clause-some : goal.states_of_run-requires-clause-some
states_of_run-requires-clause-some g c = some_left c.requires.first c.in_ok-keep_all.ensures (sym c.in-Yes.is ∙ c.verdict.ensures)

pub returns-in_ok-states-in-Yes : goal.returns-in_ok-states-in-Yes
returns-in_ok-states-in-Yes g c =
    run_found c.requires.first c.in_ok-keep_all.ensures (sym c.in-Yes.is ∙ c.verdict.ensures) _ c.keep_all.new.kept.exchanges c.in_ok-states-in-Yes.states refl
    (rw c.deref.ensures.value at c.in_ok-states-in-Yes.ensures) (ap (λ (t : Totals). t.passed_over) c.totals.ensures)
