use Rattle.std.specs.Prelude.{None}
use Rattle.report9.specs.declared.verdict.View.TheVariants as view
use Rattle.judge9.proofs.Endings.{all_told}
use Rattle.judge9.proofs.Reports.{advanced, failed, so_far-none}
use Rattle.judge9.proofs.RunLemmas.{no_why}
use Rattle.judge9.proofs.TurnSteps.{handed}
use Rattle.show9.proofs.Shown.{no_kept, refused, shown_more}
use Rattle.show9.proofs.follow.show_events.Goals as goal

pub events-init : goal.events-init
events-init g c = record {
  kept = no_kept c.args.judging.now.alloc;
  so_far = so_far-none view.Verdict _ _ _ None _ _ c.requires.stands no_why;
  ready = c.requires.ready;
}

pub returns-in_err-event : goal.returns-in_err-event
returns-in_err-event g c =
    let s = c.events.invariant.so_far in
    rw (handed c.from_residual.result c.from_residual.ensures.1)
    (failed s c.in_err-event.field-0.0 c.in_err-event.ensures.over (c.in_err-event.ensures.told _ _ _ s.history s.stands))

pub returns-in-End : goal.returns-in-End
returns-in-End g c =
    let s = c.events.invariant.so_far in
    let told = rw c.in-End.is at c.in_ok-event.ensures in
    (all_told s told.over (told.told _ _ _ s.history s.stands)).0

pub returns-in_err-between-in_default : goal.returns-in_err-between-in_default
returns-in_err-between-in_default g c =
    let s = c.events.invariant.so_far in
    let a = advanced c.in_ok-event.event c.in_default.not-End (c.in_ok-event.ensures.told _ _ _ s.history s.stands) in
    rw (handed c.from_residual-in_err-between-in_default.result c.from_residual-in_err-between-in_default.ensures.1)
    (refused s a c.in_ok-event.ensures.over c.in_default.not-End (λ b is. c.in_ok-event.ensures.broke b (cc)) c.in_err-between-in_default.field-0.0 c.in_err-between-in_default.ensures)

pub events-preserved : goal.events-preserved
events-preserved g c =
    let s = c.events.invariant.so_far in
    let a = advanced c.in_ok-event.event c.in_default.not-End (c.in_ok-event.ensures.told _ _ _ s.history s.stands) in
    record {
      kept = c.events.invariant.kept;
      so_far = shown_more s a c.in_ok-event.ensures.over c.in_default.not-End (λ b is. c.in_ok-event.ensures.broke b (cc)) c.events.invariant.kept;
      ready = c.in_ok-event.ensures.ready;
    }
