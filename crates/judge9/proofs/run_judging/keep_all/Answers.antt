use Rattle.judge9.proofs.Words.{JudgeError, None, refl, View}
use Rattle.judge9.proofs.run_judging.keep_all.Goals as goal
use Rattle.judge9.proofs.Reports.{advanced, so_far-none, untold}
use Rattle.judge9.proofs.RunLemmas.{kept_end, kept_failed, kept_more, no_why, same_more, same_still}
use Rattle.judge9.proofs.TurnSteps.{handed}

pub events-init : goal.events-init
events-init g c = record {
  so_far = so_far-none View.Verdict _ _ _ None _ _ c.requires.stands no_why;
  same = λ none. c.requires.empty;
  ready = c.requires.ready;
}

pub returns-in_err-next : goal.returns-in_err-next
returns-in_err-next g c =
    let i = c.events.invariant in
    rw (handed c.from_residual.result c.from_residual.ensures.1)
    (kept_failed i.so_far i.same c.in_err-next.field-0.0 c.in_err-next.ensures.over (c.in_err-next.ensures.told _ _ _ i.so_far.history i.so_far.stands))

pub returns-in_err-keep-in-Exchange : goal.returns-in_err-keep-in-Exchange
returns-in_err-keep-in-Exchange g c =
    let i = c.events.invariant in
    let next = rw c.in-Exchange.is at c.in_ok-next.ensures in
    rw (handed c.from_residual-in_err-keep-in-Exchange.result c.from_residual-in_err-keep-in-Exchange.ensures.1)
    (λ q. cc, untold i.so_far (next.told _ _ _ i.so_far.history i.so_far.stands) next.over (λ q. cc) (λ b is. cc) View.Verdict _ refl refl JudgeError.OutOfMemory None tt)

pub events-preserved-in-Exchange : goal.events-preserved-in-Exchange
events-preserved-in-Exchange g c =
    let i = c.events.invariant in
    let next = rw c.in-Exchange.is at c.in_ok-next.ensures in
    let a = next.told _ _ _ i.so_far.history i.so_far.stands in
    record {
      so_far = kept_more i.so_far i.same a next.over (λ q. cc) (λ b is. cc) c.keep.new.self;
      same = same_more i.so_far i.same a c.keep.new.self.exchanges.items c.in_ok-keep-in-Exchange.ensures.kept;
      ready = next.ready;
    }

pub events-preserved : goal.events-preserved
events-preserved g c =
    let i = c.events.invariant in
    let next = c.in_ok-next.ensures in
    let a = advanced _ c.in_default.not-End (next.told _ _ _ i.so_far.history i.so_far.stands) in
    record {
      so_far = kept_more i.so_far i.same a next.over c.in_default.not-End (λ b is. next.broke b (cc)) c.events.kept;
      same = same_still i.so_far i.same a c.in_default.not-Exchange;
      ready = next.ready;
    }

pub returns-in-End : goal.returns-in-End
returns-in-End g c =
    let i = c.events.invariant in
    let next = rw c.in-End.is at c.in_ok-next.ensures in
    kept_end i.so_far i.same next.over (next.told _ _ _ i.so_far.history i.so_far.stands)
