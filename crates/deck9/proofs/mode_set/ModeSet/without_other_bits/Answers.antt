use Rattle.deck9.proofs.Words.{ap, has, subst, sym, ◌∙◌, ◌<◌}
use Rattle.deck9.proofs.mode_set.ModeSet.without_other_bits.Goals as goal
use Rattle.deck9.proofs.ModeSetLemmas.{has_ten, ten_bits}

pub returns-clause-has : goal.returns-clause-has
returns-clause-has c = λ m. ap (λ b. has b m) (c.intersection.ensures tt) ∙ has_ten c.args.self.0 m

pub returns-clause-ten : goal.returns-clause-ten
returns-clause-ten c = subst (λ n. n < 1024) (sym (c.intersection.ensures tt)) (ten_bits c.args.self.0)
