use Rattle.judge9.proofs.TurnSteps.{handed}
use Rattle.maker9.proofs.Answering.{view_answers}
use Rattle.maker9.proofs.making.tell_json_run.Goals as goal

pub returns-in_err-of_view : goal.returns-in_err-of_view
returns-in_err-of_view g c =
    rw (handed c.from_residual-in_err-of_view.result c.from_residual-in_err-of_view.ensures.1)
    (view_answers c.args.job.now.asked.beginning c.args.job.now.profile (g.R.Read.remaining c.args.reader) c.in_err-of_view.field-0.0 c.in_err-of_view.ensures)
