use Rattle.track9.proofs.Words.{sym, ◌∙◌}
use Rattle.track9.proofs.entries.Entries.pick.Goals as goal
use Rattle.track9.proofs.EntryLemmas.{nothing_allowed}

pub returns-else-is_some-clause-none : goal.returns-else-is_some-clause-none
returns-else-is_some-clause-none g c = λ w. nothing_allowed c.args.self.now (sym c.is_some.ensures ∙ c.if-is_some.false) w.0 w.1
