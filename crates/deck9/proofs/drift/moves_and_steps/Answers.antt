use Rattle.deck9.proofs.Words.{false≢true, inl, inr, PassesOne, refl, Steps, Stop, subst, sym, ◌∙◌}
use Rattle.deck9.proofs.DriftLemmas.{five_from_moves, moves_from_five}
use Rattle.deck9.proofs.drift.moves_and_steps.Goals as goal

pub returns-then-steps : goal.returns-then-steps
returns-then-steps c = (
  λ is. moves_from_five c.args.profile.now c.args.going c.args.exchange.now c.args.before.now c.args.after.now (inl (c.steps.ensures.0 c.if-steps.true)),
  λ drifts. refl,
)

pub returns-then-passes_and_steps : goal.returns-then-passes_and_steps
returns-then-passes_and_steps c = (
  λ is. moves_from_five c.args.profile.now c.args.going c.args.exchange.now c.args.before.now c.args.after.now
      (inr (inr (inl (c.passes_and_steps.ensures.0 c.if-passes_and_steps.true)))),
  λ drifts. refl,
)

pub returns : goal.returns
returns c = (
  λ is. moves_from_five c.args.profile.now c.args.going c.args.exchange.now c.args.before.now c.args.after.now
      (inr (inr (inr (inr (subst (λ s. PassesOne c.args.profile.now c.args.going c.args.exchange.now s c.args.after.now) c.with_goal-stopped.ensures (c.passes_and_steps-2.ensures.0 is)))))),
  λ drifts. elim (five_from_moves c.args.profile.now c.args.going c.args.exchange.now c.args.before.now c.args.after.now drifts) [
    | inl w ↦ absurd (false≢true (sym c.if-steps.false ∙ c.steps.ensures.1 w))
    | inr (inl w) ↦ absurd (false≢true (sym c.if-shows_and_steps.false ∙ c.shows_and_steps.ensures.1 w))
    | inr (inr (inl w)) ↦ absurd (false≢true (sym c.if-passes_and_steps.false ∙ c.passes_and_steps.ensures.1 w))
    | inr (inr (inr (inl w))) ↦ absurd (false≢true (sym c.if-shows_and_steps-2.false ∙ c.shows_and_steps-2.ensures.1
        (subst (λ s. Steps c.args.profile.now c.args.exchange.now (record s { shown = Stop }) c.args.after.now) (sym c.with_goal-stopped.ensures) w)))
    | inr (inr (inr (inr w))) ↦ c.passes_and_steps-2.ensures.1 (subst (λ s. PassesOne c.args.profile.now c.args.going c.args.exchange.now s c.args.after.now) (sym c.with_goal-stopped.ensures) w)
  ],
)
