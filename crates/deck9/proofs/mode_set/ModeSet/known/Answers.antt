use Rattle.deck9.proofs.Words.{sym, ◌∙◌}
use Rattle.deck9.proofs.mode_set.ModeSet.known.Goals as goal
use Rattle.deck9.proofs.ModeSetLemmas.{has_ten, just_mode, two_modes}

pub returns-then-ten-alone : goal.returns-then-ten-alone
returns-then-ten-alone c = λ n h. just_mode c.first-first.result n (rw (← c.if-ten-alone.true ∙ c.just-alone.ensures.bits) (has_ten c.args.self.0 n ∙ h))

pub returns-else-ten-alone : goal.returns-else-ten-alone
returns-else-ten-alone c = two_modes c.args.self c.first-first.result c.first-first.ensures (λ e. c.if-ten-alone.false (e ∙ sym c.just-alone.ensures.bits))
