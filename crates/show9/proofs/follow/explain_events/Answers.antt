use Rattle.std.specs.Prelude.{None}
use Rattle.report9.specs.declared.error.JudgeError.TheVariants as error
use Rattle.report9.specs.declared.verdict.View.TheVariants as view
use Rattle.judge9.proofs.Endings.{all_told}
use Rattle.judge9.proofs.Reports.{advanced, failed, so_far-none}
use Rattle.judge9.proofs.RunLemmas.{no_why}
use Rattle.judge9.proofs.TurnSteps.{handed}
use Rattle.show9.proofs.Shown.{refused, shown_more}
use Rattle.show9.proofs.follow.explain_events.Goals as goal

pub events-init : goal.events-init
events-init g c = record {
  so_far = so_far-none view.Verdict _ _ _ None _ _ c.requires.stands no_why;
  keeps = record {
    exchanges = c.new-kept.ensures.0;
    ended = record { none = λ nil. c.new-kept.ensures.1; last = λ nil. c.new-kept.ensures.1 };
  };
  ready = c.requires.ready;
}

pub follow-requires : goal.follow-requires
follow-requires g c =
    let i = c.events.invariant in
    let a = advanced c.in_ok-event.event c.in_default.not-End (c.in_ok-event.ensures.told _ _ _ i.so_far.history i.so_far.stands) in
    record {
      shows = λ is. c.in_ok-event.ensures.shows (cc);
      advances = (_, _, _, i.so_far.history, i.keeps, a);
    }

pub returns-in_err-event : goal.returns-in_err-event
returns-in_err-event g c =
    let s = c.events.invariant.so_far in
    rw (handed c.from_residual.result c.from_residual.ensures.1)
    (failed s c.in_err-event.field-0.0 c.in_err-event.ensures.over (c.in_err-event.ensures.told _ _ _ s.history s.stands))

pub returns-in-End : goal.returns-in-End
returns-in-End g c =
    let s = c.events.invariant.so_far in
    let told = rw c.in-End.is at c.in_ok-event.ensures in
    (all_told s told.over (told.told _ _ _ s.history s.stands)).0

pub returns-in_err-why-in_default : goal.returns-in_err-why-in_default
returns-in_err-why-in_default g c =
    let s = c.events.invariant.so_far in
    let a = advanced c.in_ok-event.event c.in_default.not-End (c.in_ok-event.ensures.told _ _ _ s.history s.stands) in
    rw (handed c.from_residual-in_err-why-in_default.result c.from_residual-in_err-why-in_default.ensures.1)
    (refused s a c.in_ok-event.ensures.over c.in_default.not-End (λ b is. c.in_ok-event.ensures.broke b (cc)) error.OutOfMemory tt)

pub returns-in_err-of_view-in_default : goal.returns-in_err-of_view-in_default
returns-in_err-of_view-in_default g c =
    let s = c.events.invariant.so_far in
    let a = advanced c.in_ok-event.event c.in_default.not-End (c.in_ok-event.ensures.told _ _ _ s.history s.stands) in
    rw (handed c.from_residual-in_err-of_view-in_default.result c.from_residual-in_err-of_view-in_default.ensures.1)
    (refused s a c.in_ok-event.ensures.over c.in_default.not-End (λ b is. c.in_ok-event.ensures.broke b (cc)) c.in_err-of_view-in_default.field-0.0 c.in_err-of_view-in_default.ensures)

pub returns-in_err-between-in_default : goal.returns-in_err-between-in_default
returns-in_err-between-in_default g c =
    let s = c.events.invariant.so_far in
    let a = advanced c.in_ok-event.event c.in_default.not-End (c.in_ok-event.ensures.told _ _ _ s.history s.stands) in
    rw (handed c.from_residual-in_err-between-in_default.result c.from_residual-in_err-between-in_default.ensures.1)
    (refused s a c.in_ok-event.ensures.over c.in_default.not-End (λ b is. c.in_ok-event.ensures.broke b (cc)) c.in_err-between-in_default.field-0.0 c.in_err-between-in_default.ensures)

pub events-preserved : goal.events-preserved
events-preserved g c =
    let i = c.events.invariant in
    let a = advanced c.in_ok-event.event c.in_default.not-End (c.in_ok-event.ensures.told _ _ _ i.so_far.history i.so_far.stands) in
    record {
      so_far = shown_more i.so_far a c.in_ok-event.ensures.over c.in_default.not-End (λ b is. c.in_ok-event.ensures.broke b (cc)) c.follow.new.self;
      keeps = c.in_ok-why-in_default.ensures.keeps _ _ _ i.so_far.history i.keeps a;
      ready = c.in_ok-event.ensures.ready;
    }
