use Rattle.track9.proofs.states.States.known_panel.Goals as goal
use Rattle.track9.proofs.KnownLemmas.{panel_known}
use Rattle.std.proofs.Common.{arith}

pub returns : goal.returns
returns = grind (arith, panel_known)
