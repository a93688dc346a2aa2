use Rattle.track9.proofs.Words.{ap, effect_of, IfSome, IfSome_then, inl, inr, IsPattern, profile_of, states_rate, refl, subst, sym, ◌∙◌}
use Rattle.track9.specs.Working.Acting.{Acted}
use Rattle.track9.proofs.states.States.before_step.Goals as goal
use Rattle.track9.proofs.BeforeLemmas.{if_none, if_none_so, step_exactly, wanted_state}

pub returns-in-Some-clause-some : goal.returns-in-Some-clause-some
returns-in-Some-clause-some g c =
    let (there, is, leads) = c.in-Some.ensures.some in
    (there, (step_exactly c.args.acting.now c.args.self.now c.args.command.now c.args.wanted.now c.requires.whole c.below_day.ensures c.requires.wanted refl refl refl refl _ there).1 (inl (is, leads)))

pub returns-in_err-before-clause-none : goal.returns-in_err-before-clause-none
returns-in_err-before-clause-none g c = if_none_so c.from_residual.result (λ (s, there, comes).
    elim ((step_exactly c.args.acting.now c.args.self.now c.args.command.now c.args.wanted.now c.requires.whole c.below_day.ensures c.requires.wanted
    c.rate.ensures c.hands.ensures (c.effect.ensures ∙ ap (λ (a : Acted). effect_of a.deck c.args.command.now) c.acting.view_is) (sym c.in_err-before.was ∙ c.before-2.ensures) s there).0 comes)
    [ inl (is, leads) ↦ c.in_default.ensures.none (s, there, is, leads) | inr found ↦ found.2 ])

pub origin-requires-clause-wanted : goal.origin-requires-clause-wanted
origin-requires-clause-wanted g c = subst (λ o. IfSome o (IsPattern (states_rate c.args.self.now)))
    (rw (sym c.rate.ensures, sym c.hands.ensures) (sym c.before-2.ensures) ∙ c.in_ok-before.was)
    (wanted_state (profile_of c.args.acting.now.deck c.args.self.now) c.effect.result c.args.wanted.now c.requires.wanted)

pub returns-clause-some : goal.returns-clause-some
returns-clause-some g c = IfSome_then c.origin.result c.origin.ensures.some (λ s (there, leads). (
  there,
  (step_exactly c.args.acting.now c.args.self.now c.args.command.now c.args.wanted.now c.requires.whole c.below_day.ensures c.requires.wanted
      c.rate.ensures c.hands.ensures (c.effect.ensures ∙ ap (λ (a : Acted). effect_of a.deck c.args.command.now) c.acting.view_is) (sym c.in_ok-before.was ∙ c.before-2.ensures) s there).1 (inr leads),
))

pub returns-clause-none : goal.returns-clause-none
returns-clause-none g c = if_none c.origin.result c.origin.ensures.none (λ none (s, there, comes).
    elim ((step_exactly c.args.acting.now c.args.self.now c.args.command.now c.args.wanted.now c.requires.whole c.below_day.ensures c.requires.wanted
    c.rate.ensures c.hands.ensures (c.effect.ensures ∙ ap (λ (a : Acted). effect_of a.deck c.args.command.now) c.acting.view_is) (sym c.in_ok-before.was ∙ c.before-2.ensures) s there).0 comes)
    [ inl (is, leads) ↦ c.in_default.ensures.none (s, there, is, leads) | inr leads ↦ none (s, there, leads) ])
