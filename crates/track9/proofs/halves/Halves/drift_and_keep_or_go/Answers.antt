use Rattle.track9.proofs.Words.{ap, halves_kept_or_gone, halves_remain, sym, ◌∙◌}
use Rattle.track9.proofs.halves.Halves.drift_and_keep_or_go.Goals as goal
use Rattle.track9.proofs.EffectLemmas.{halves_live_kept}

pub returns-clause-some : goal.returns-clause-some
returns-clause-some g c = rw (c.keep_or_go.ensures, c.keep_or_go-2.ensures) (c.drift-some.ensures.some
    ∙ sym (halves_live_kept c.args.goals (record { remote = c.self.inside.remote; local = c.self.inside.local }) ∙ ap halves_remain c.self.view_is))

pub returns-clause-gone : goal.returns-clause-gone
returns-clause-gone g c = rw (c.keep_or_go.ensures, c.keep_or_go-2.ensures) (ap (halves_kept_or_gone c.args.goals) (c.self.view_is ∙ c.drift-some.ensures.drifted))
