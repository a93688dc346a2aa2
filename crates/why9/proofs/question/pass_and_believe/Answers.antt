use Rattle.why9.proofs.Words.{IfOk-weaker, Possible}
use Rattle.why9.proofs.QuestionLemmas.{goes-passed}
use Rattle.why9.proofs.question.pass_and_believe.Goals as goal

pub returns : goal.returns
returns c =
    let whole = goes-passed c.args.tracker.now.profile c.args.tracker.now.going c.pass_all.new.tracker.going (Possible c.args.tracker.now.states)
    (Possible c.pass_all.new.tracker.states) c.args.passed.now c.args.believed.now c.in_ok-pass_all.ensures.passed in
    IfOk-weaker c.believe_all.result _ _ (λ b is. (λ t. whole.1 (is.0 t), λ g. is.1 (whole.0 g)))
    (rw c.in_ok-pass_all.ensures.profile at c.believe_all.ensures)
