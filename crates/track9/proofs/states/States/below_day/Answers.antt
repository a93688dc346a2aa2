use Rattle.track9.proofs.states.States.below_day.Goals as goal
use Rattle.track9.proofs.PanelLemmas.{below_off}

pub returns-in_default : goal.returns-in_default
returns-in_default g c = rw (← c.self.view_is, c.in_default.is) (below_off c.self.inside.off c.below_day.ensures)
