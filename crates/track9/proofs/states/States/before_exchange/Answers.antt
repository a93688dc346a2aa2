use Rattle.track9.proofs.Words.{ap, arith, forgotten_before, forgotten_with, hands_of, IfSome_then, IsState, just_state, profile_of, states_rate, Shows, subst, sym, ◌∙◌, ◌≡◌}
use Rattle.track9.specs.Working.Acting.{Acted}
use Rattle.track9.proofs.states.States.before_exchange.Goals as goal
use Rattle.track9.proofs.BeforeLemmas.{fits_self, forgotten_state, goes_exactly, goes_state, if_none, nak_exactly}
use Rattle.track9.proofs.PartLemmas.{possible_state}

pub returns-then-not-is_of-clause-none : goal.returns-then-not-is_of-clause-none
returns-then-not-is_of-clause-none g c = λ (s, there, goes).
    let day = goes_state (profile_of c.args.acting.now.deck c.args.self.now) c.args.acting.now.on c.args.exchange.now s c.args.target.now (possible_state (states_rate c.args.self.now) c.args.self.now s c.requires c.below_day.ensures there) goes in
    grind (arith, day, c.rate.ensures, c.is_of.ensures.1, c.if-not-is_of.true)

pub origin-requires-clause-wanted : goal.origin-requires-clause-wanted
origin-requires-clause-wanted g c = rw c.just-wanted.ensures
    (c.args.target.now, subst (λ rate. IsState rate c.args.target.now) c.rate.ensures (c.is_of.ensures.0 c.if-not-is_of.false), fits_self c.args.target.now)

pub returns-then-is_nak-clause-some : goal.returns-then-is_nak-clause-some
returns-then-is_nak-clause-some g c = IfSome_then c.origin.result c.origin.ensures.some (λ s (there, leads).
    (there, (nak_exactly _ c.args.acting.now.on c.args.exchange.now s c.args.target.now (sym c.is_nak.ensures ∙ c.if-is_nak.true)).0 (rw c.just-wanted.ensures at leads)))

pub returns-then-is_nak-clause-none : goal.returns-then-is_nak-clause-none
returns-then-is_nak-clause-none g c = if_none c.origin.result c.origin.ensures.none (λ none (s, there, goes).
    none (s, there, rw c.just-wanted.ensures ((nak_exactly _ c.args.acting.now.on c.args.exchange.now s c.args.target.now (sym c.is_nak.ensures ∙ c.if-is_nak.true)).1 goes)))

pub before_step-requires-clause-wanted : goal.before_step-requires-clause-wanted
before_step-requires-clause-wanted g c = rw (c.forget.ensures, c.just-wanted.ensures) (forgotten_state (states_rate c.args.self.now) c.hands.result c.forgotten_with.result (just_state c.args.target.now)
    (c.args.target.now, subst (λ rate. IsState rate c.args.target.now) c.rate.ensures (c.is_of.ensures.0 c.if-not-is_of.false), fits_self c.args.target.now))

pub returns-clause-some : goal.returns-clause-some
returns-clause-some g c = IfSome_then c.before_step.result c.before_step.ensures.some (λ s (there, comes).
    let is : c.forget.new.self ≡ forgotten_before (hands_of c.args.self.now) (forgotten_with c.args.acting.now.deck c.args.exchange.now) (just_state c.args.target.now) =
    rw (c.hands.ensures, c.forgotten_with.ensures ∙ ap (λ (a : Acted). forgotten_with a.deck c.args.exchange.now) c.acting.view_is, c.just-wanted.ensures) at c.forget.ensures in (
      there,
      (goes_exactly (profile_of c.args.acting.now.deck c.args.self.now) c.args.acting.now.on c.args.exchange.now s c.args.target.now (sym c.is_nak.ensures ∙ c.if-is_nak.false)
          (possible_state (states_rate c.args.self.now) c.args.self.now s c.requires c.below_day.ensures there)
          (subst (λ rate. IsState rate c.args.target.now) c.rate.ensures (c.is_of.ensures.0 c.if-not-is_of.false))).1
          (subst (λ rate. Shows rate c.args.target.now c.args.exchange.now.command c.args.exchange.now.reply) c.rate-2.ensures (c.shows.ensures.0 c.if-not-shows.false), rw is at comes),
    ))

pub returns-clause-none : goal.returns-clause-none
returns-clause-none g c = if_none c.before_step.result c.before_step.ensures.none (λ none (s, there, goes).
    let is : c.forget.new.self ≡ forgotten_before (hands_of c.args.self.now) (forgotten_with c.args.acting.now.deck c.args.exchange.now) (just_state c.args.target.now) =
    rw (c.hands.ensures, c.forgotten_with.ensures ∙ ap (λ (a : Acted). forgotten_with a.deck c.args.exchange.now) c.acting.view_is, c.just-wanted.ensures) at c.forget.ensures in
    none (
      s,
      there,
      rw is ((goes_exactly (profile_of c.args.acting.now.deck c.args.self.now) c.args.acting.now.on c.args.exchange.now s c.args.target.now (sym c.is_nak.ensures ∙ c.if-is_nak.false)
          (possible_state (states_rate c.args.self.now) c.args.self.now s c.requires c.below_day.ensures there)
          (subst (λ rate. IsState rate c.args.target.now) c.rate.ensures (c.is_of.ensures.0 c.if-not-is_of.false))).0 goes).1,
    ))
