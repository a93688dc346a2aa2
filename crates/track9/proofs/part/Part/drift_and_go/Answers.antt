use Rattle.track9.proofs.Words.{sym, ◌∙◌}
use Rattle.track9.proofs.EffectLemmas.{gone_some}
use Rattle.track9.proofs.part.Part.drift_and_go.Goals as goal

pub returns-then-some-clause-live : goal.returns-then-some-clause-live
returns-then-some-clause-live g c =
    c.if-some.true ∙ sym (rw c.go.ensures (gone_some c.args.may_stay c.args.goal c.drift-some.new.self.0 (sym c.drift-some.ensures.some ∙ c.if-some.true)))
