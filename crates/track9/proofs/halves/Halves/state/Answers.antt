use Rattle.track9.proofs.Words.{Halves, halves_rate, part_rate, subst, sym, Whole}
use Rattle.track9.proofs.halves.Halves.state.Goals as goal
use Rattle.track9.proofs.PartLemmas.{own_part}

pub state_in-requires-2 : goal.state_in-requires-2
state_in-requires-2 g c = subst (λ (h : Halves). Whole (part_rate h.local) h.local) (sym c.self.view_is)
    (own_part (halves_rate c.args.self.now) c.args.self.now.local c.requires.local)
