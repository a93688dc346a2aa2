use Rattle.deck9.proofs.Words.{ap, has, ◌∙◌}
use Rattle.deck9.proofs.mode_set.ModeSet.and.Goals as goal
use Rattle.deck9.proofs.ModeSetLemmas.{has-and}

pub returns-clause-has : goal.returns-clause-has
returns-clause-has c = λ m. ap (λ b. has b m) (c.intersection.ensures tt) ∙ has-and c.args.self.0 c.args.other.0 m
