use Rattle.track9.proofs.Words.{drift_from_pairs, false, profile_of, IfSome_then, inl, InHalves, option_map, RunsTo, State, States, subst}
use Rattle.track9.proofs.states.States.origin.Goals as goal
use Rattle.track9.proofs.BeforeLemmas.{hand_leads, if_none, no_origin, panel_hands}
use Rattle.track9.proofs.PartLemmas.{of_halves}
use Rattle.std.proofs.Common.{arith}

pub returns-in-Some-clause-some : goal.returns-in-Some-clause-some
returns-in-Some-clause-some = grind (arith, of_halves, hand_leads, panel_hands)

pub returns-clause-some : goal.returns-clause-some
returns-clause-some g c = IfSome_then c.origin.result c.origin.ensures.some (λ s (there, (d, kept, reaches, fits)). (
  rw (← c.self.view_is) (of_halves (record { off = c.self.inside.off; on = option_map (λ b. b.value) c.self.inside.on }) s false there),
  (d, drift_from_pairs (profile_of c.args.acting.now.deck c.args.self.now) c.args.acting.now.on s d (inl (kept, reaches)), fits),
))

pub returns-clause-none : goal.returns-clause-none
returns-clause-none g c = if_none c.origin.result c.origin.ensures.none (λ off.
    no_origin (profile_of c.args.acting.now.deck c.args.self.now) c.args.acting.now.on c.args.self.now c.args.wanted.now c.in_default.ensures.none
    (subst (λ (v : States). ((s : State) × InHalves false v.off s × RunsTo c.args.acting.now c.args.wanted.now s) → ⊥) c.self.view_is off))
