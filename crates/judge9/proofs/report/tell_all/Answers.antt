use Rattle.judge9.proofs.Words.{[], Appends-nil, arith, refl, sym, ◌∙◌}
use Rattle.judge9.proofs.report.tell_all.Goals as goal
use Rattle.judge9.proofs.Endings.{all_told}
use Rattle.judge9.proofs.Keeping.{breaks_last}
use Rattle.judge9.proofs.Reports.{advanced, failed, so_far-more, so_far-none, untold}
use Rattle.judge9.proofs.TurnSteps.{handed}

pub events-init : goal.events-init
events-init g c = record {
  so_far = so_far-none c.args.telling.now.view _ _ _ (g.W.Write.contents c.args.writer.now) _ _ c.requires.stands (λ why. c.requires.none_kept);
  ready = c.requires.ready;
  view = refl;
  profile = c.requires.same;
}

pub returns-in_err-event : goal.returns-in_err-event
returns-in_err-event g c =
    let s = c.events.invariant.so_far in
    rw (handed c.from_residual.result c.from_residual.ensures.1)
    (failed s c.in_err-event.field-0.0 c.in_err-event.ensures.over (c.in_err-event.ensures.told _ _ _ s.history s.stands))

pub returns-in-End : goal.returns-in-End
returns-in-End g c =
    let s = c.events.invariant.so_far in
    let told = rw c.in-End.is at c.in_ok-event.ensures in
    (all_told s told.over (told.told _ _ _ s.history s.stands)).0

pub tell-requires : goal.tell-requires
tell-requires g c =
    let s = c.events.invariant.so_far in
    let a = advanced c.in_ok-event.event c.in_default.not-End (c.in_ok-event.ensures.told _ _ _ s.history s.stands) in
    let same = c.in_ok-event.ensures.same.1 ∙ s.stands.same_profile in
    record {
      shows = λ is. c.in_ok-event.ensures.shows (cc);
      breaks = λ b is why no_run. rw same (breaks_last (s.keeps (sym c.events.invariant.view ∙ why)) a b is no_run);
      same = same ∙ sym c.events.invariant.profile;
    }

pub events-preserved-in-Continue-branch-3 : goal.events-preserved-in-Continue-branch-3
events-preserved-in-Continue-branch-3 g c =
    let s = c.events.invariant.so_far in
    let a = advanced c.in_ok-event.event c.in_default.not-End (c.in_ok-event.ensures.told _ _ _ s.history s.stands) in
    let tells = c.in_ok-tell-in_default.ensures in
    record {
      so_far = so_far-more s a c.in_ok-event.ensures.over c.in_default.not-End (λ b is. c.in_ok-event.ensures.broke b (cc)) c.tell.new.self.kept
          (rw (c.events.invariant.view, c.events.invariant.profile) at tells.told) (λ why. tells.kept (c.events.invariant.view ∙ why));
      ready = c.in_ok-event.ensures.ready;
      view = tells.same.0 ∙ c.events.invariant.view;
      profile = tells.same.1 ∙ c.events.invariant.profile;
    }

-- an exchange, of which a verdict tells nothing
pub events-preserved : goal.events-preserved
events-preserved g c =
    let s = c.events.invariant.so_far in
    let a = advanced c.in_ok-event.event c.in_default.not-End (c.in_ok-event.ensures.told _ _ _ s.history s.stands) in
    let silent = c.is_silent.ensures (let told = c.if-not-is_silent.false in grind arith) in
    let verdict = sym c.events.invariant.view ∙ silent.0 in
    record {
      so_far = so_far-more s a c.in_ok-event.ensures.over c.in_default.not-End (λ b is. c.in_ok-event.ensures.broke b (cc)) c.events.telling.kept
          (rw (verdict, silent.1) ([], refl, Appends-nil _)) (λ why. absurd (cc (sym verdict ∙ why)));
      ready = c.in_ok-event.ensures.ready;
      view = c.events.invariant.view;
      profile = c.events.invariant.profile;
    }

pub returns-in_err-tell-in_default : goal.returns-in_err-tell-in_default
returns-in_err-tell-in_default g c =
    let s = c.events.invariant.so_far in
    let a = advanced c.in_ok-event.event c.in_default.not-End (c.in_ok-event.ensures.told _ _ _ s.history s.stands) in
    rw (handed c.from_residual-in_err-tell-in_default.result c.from_residual-in_err-tell-in_default.ensures.1)
    (untold s a c.in_ok-event.ensures.over c.in_default.not-End (λ b is. c.in_ok-event.ensures.broke b (cc)) _ _ c.events.invariant.view c.events.invariant.profile
    c.in_err-tell-in_default.field-0.0 _ c.in_err-tell-in_default.ensures.told)
