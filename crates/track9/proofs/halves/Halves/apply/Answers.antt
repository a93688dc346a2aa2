use Rattle.track9.proofs.Words.{halves_rate, refl, halves_drifted}
use Rattle.deck9.specs.declared.effect.Effect.TheVariants as effect
use Rattle.track9.proofs.halves.Halves.apply.Goals as goal
use Rattle.track9.proofs.EffectLemmas.{after_change, after_drift, after_forgotten, has_effect}
use Rattle.track9.proofs.PartLemmas.{drift_whole}

pub returns-in-Nothing-clause-ok : goal.returns-in-Nothing-clause-ok
returns-in-Nothing-clause-ok g c = rw (c.in-Nothing.is, c.drift.ensures.drifted)
    (after_drift c.args.acting.now (halves_rate c.args.self.now) c.args.may_stay effect.Nothing c.args.self.now (λ s t e. e) (λ s t e. e) (λ n. refl) c.requires)

pub returns-in-Panel-clause-ok : goal.returns-in-Panel-clause-ok
returns-in-Panel-clause-ok g c = rw (c.in-Panel.is, c.drift-in-Panel.ensures.drifted)
    (after_drift c.args.acting.now (halves_rate c.args.self.now) c.args.may_stay (effect.Panel c.in-Panel.field-0) c.args.self.now (λ s t e. e) (λ s t e. e) (λ n. refl) c.requires)

pub returns-in-Go-clause-ok : goal.returns-in-Go-clause-ok
returns-in-Go-clause-ok g c = rw (c.in-Go.is, c.drift_and_go.ensures.gone)
    (has_effect c.args.acting.now.deck (halves_rate c.args.self.now) c.args.may_stay (effect.Go c.in-Go.goal) (halves_drifted c.args.acting.now c.args.self.now) refl (drift_whole c.args.acting.now (halves_rate c.args.self.now) c.args.self.now c.requires) (λ l. tt))

pub returns-in-KeepOr-clause-ok : goal.returns-in-KeepOr-clause-ok
returns-in-KeepOr-clause-ok g c = rw (c.in-KeepOr.is, c.drift_and_keep_or_go.ensures.gone)
    (has_effect c.args.acting.now.deck (halves_rate c.args.self.now) c.args.may_stay (effect.KeepOr c.in-KeepOr.goals) (halves_drifted c.args.acting.now c.args.self.now) refl (drift_whole c.args.acting.now (halves_rate c.args.self.now) c.args.self.now c.requires) (λ l. tt))

pub returns-in_ok-change-in-Change-clause-ok : goal.returns-in_ok-change-in-Change-clause-ok
returns-in_ok-change-in-Change-clause-ok g c = rw (c.in-Change.is, c.drift-in-Change.ensures.drifted, (c.in_ok-change-in-Change).ensures.ok)
    (after_change c.args.acting.now (halves_rate c.args.self.now) c.args.may_stay c.in-Change.register c.in-Change.change c.args.self.now c.requires c.below_day.ensures)

pub returns-in_ok-forget-in-Forget-clause-ok : goal.returns-in_ok-forget-in-Forget-clause-ok
returns-in_ok-forget-in-Forget-clause-ok g c = rw (c.in-Forget.is, c.drift-in-Forget.ensures.drifted, (c.in_ok-forget-in-Forget).ensures.ok)
    (after_forgotten c.args.acting.now (halves_rate c.args.self.now) c.args.may_stay c.in-Forget.forgotten c.args.self.now c.requires c.below_day-in-Forget.ensures)
