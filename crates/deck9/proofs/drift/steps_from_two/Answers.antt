-- Two states of the day stand for all before a step.
use Rattle.deck9.proofs.Words.{ap, arith, IsState, State, subst, sym, ◌∙◌, ◌≡◌}
use Rattle.deck9.proofs.RestLemmas.{back_valid, same_valid}
use Rattle.deck9.proofs.RunSearch.{before_all, two_states}
use Rattle.deck9.proofs.drift.steps_from_two.Goals as goal

pub returns-then-steps_from_same : goal.returns-then-steps_from_same
returns-then-steps_from_same c = (
  λ is. (
    c.with_panel-same.result,
    rw (c.with_panel-same.ensures, c.before_forgetting.ensures) (same_valid c.args.profile.now.rate c.forgotten_with-forgotten.result c.args.after.now c.args.panel c.requires),
    ap (λ (v : State). v.panel) c.with_panel-same.ensures,
    c.steps-steps_from_same.ensures.0 is,
  ),
  λ w. c.if-steps_from_same.true,
)

pub returns-else-steps_from_same : goal.returns-else-steps_from_same
returns-else-steps_from_same c =
    let p = c.args.profile.now in
    let t = c.args.after.now in
    let g = c.forgotten_with-forgotten.result in
    let made : c.with_panel-same.result ≡ before_all g c.args.panel t =
    c.with_panel-same.ensures ∙ ap (λ (v : State). record v { panel = c.args.panel }) c.before_forgetting.ensures in
    let valid : IsState p.rate c.with_panel-same.result = subst (IsState p.rate) (sym made) (same_valid p.rate g t c.args.panel c.requires) in
    let deck = sym c.deck_ref-deck.ensures in
    let states = two_states p c.args.exchange.now c.args.panel t c.effect.result c.with_panel-same.result c.before_shift-back.result (rw deck c.effect.ensures)
    (rw deck (made ∙ ap (λ g. before_all g c.args.panel t) c.forgotten_with-forgotten.ensures)) c.before_shift-back.ensures valid
    (subst (IsState p.rate) (sym c.before_shift-back.ensures) (back_valid p.rate c.effect.result c.with_panel-same.result valid)) in
    grind (arith, states)
