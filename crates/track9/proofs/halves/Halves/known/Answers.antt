use Rattle.track9.proofs.Words.{Halves, Rate, halves_rate, subst, sym, Whole}
use Rattle.track9.proofs.halves.Halves.known.Goals as goal

pub known-remote-requires : goal.known-remote-requires
known-remote-requires g c = subst (λ (h : Halves). (rate : Rate) × Whole rate h.remote) (sym c.self.view_is) (halves_rate c.args.self.now, c.requires.remote)

pub known-local-requires : goal.known-local-requires
known-local-requires g c = subst (λ (h : Halves). (rate : Rate) × Whole rate h.local) (sym c.self.view_is) (halves_rate c.args.self.now, c.requires.local)
