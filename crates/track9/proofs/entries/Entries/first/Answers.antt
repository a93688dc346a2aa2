use Rattle.track9.proofs.Words.{ap, Entries, sym, ◌∙◌}
use Rattle.track9.proofs.entries.Entries.first.Goals as goal
use Rattle.track9.proofs.BeforeLemmas.{clear_alone}

pub returns-in-None : goal.returns-in-None
returns-in-None g c = clear_alone c.args.self.now c.requires (ap (λ (e : Entries). e.times) (sym c.self.view_is) ∙ c.in-None.ensures)
