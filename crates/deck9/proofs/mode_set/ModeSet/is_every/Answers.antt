use Rattle.deck9.proofs.Words.{◌∙◌}
use Rattle.deck9.proofs.mode_set.ModeSet.is_every.Goals as goal
use Rattle.deck9.proofs.ModeSetLemmas.{all_every}

pub returns : goal.returns
returns c = c.contains.ensures tt ∙ all_every c.args.self.0
