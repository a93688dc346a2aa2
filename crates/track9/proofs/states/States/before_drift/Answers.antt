use Rattle.track9.proofs.Words.{arith, Drift, IfSome_then, IsState, profile_of, states_rate, subst, sym}
use Rattle.track9.proofs.states.States.before_drift.Goals as goal
use Rattle.track9.proofs.BeforeLemmas.{fits_just, fits_self}
use Rattle.track9.proofs.PartLemmas.{drift_state, possible_state}

pub returns-then-not-is_of-clause-none : goal.returns-then-not-is_of-clause-none
returns-then-not-is_of-clause-none g c = λ (s, there, drift).
    let day = drift_state (profile_of c.args.acting.now.deck c.args.self.now) c.args.acting.now.on s c.args.target.now (possible_state (states_rate c.args.self.now) c.args.self.now s c.requires c.below_day.ensures there) drift in
    grind (arith, day, c.rate.ensures, c.is_of.ensures.1, c.if-not-is_of.true)

pub origin-requires-clause-wanted : goal.origin-requires-clause-wanted
origin-requires-clause-wanted g c = rw c.just.ensures (c.args.target.now, (subst (λ rate. IsState rate c.args.target.now) c.rate.ensures (c.is_of.ensures.0 c.if-not-is_of.false)), fits_self c.args.target.now)

pub returns-clause-some : goal.returns-clause-some
returns-clause-some g c = IfSome_then c.origin.result c.origin.ensures.some (λ s w.
    let (d, drift, fits) = rw c.just.ensures at w.1 in
    (w.0, subst (Drift (profile_of c.args.acting.now.deck c.args.self.now) c.args.acting.now.on s) (sym (fits_just c.args.target.now d fits)) drift))
