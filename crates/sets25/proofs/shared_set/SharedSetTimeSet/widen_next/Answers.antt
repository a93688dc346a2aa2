use Rattle.sets25.proofs.Lemmas.{changed_alone, image, next_frame, on_err_weaker, on_ok_weaker}
use Rattle.std.specs.FinSet as set
use Rattle.sets25.proofs.shared_set.SharedSetTimeSet.widen_next.Goals as goal

pub returns-clause-ok : goal.returns-clause-ok
returns-clause-ok c =
    on_ok_weaker c.widen_next.result
    (changed_alone (λ r s. set.union s (image (next_frame r) s)) c.args.self.now c.gather.new.self c.widen_next.new.self
    c.in_ok-gather.ensures.same c.in_ok-gather.ensures.rate c.in_ok-gather.ensures.alone)
    c.widen_next.ensures.ok

pub returns-clause-err : goal.returns-clause-err
returns-clause-err c =
    on_err_weaker c.widen_next.result
    (changed_alone (λ r s. s) c.args.self.now c.gather.new.self c.widen_next.new.self
    c.in_ok-gather.ensures.same c.in_ok-gather.ensures.rate c.in_ok-gather.ensures.alone)
    c.widen_next.ensures.err
