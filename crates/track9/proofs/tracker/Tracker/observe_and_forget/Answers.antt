use Rattle.track9.proofs.tracker.Tracker.observe_and_forget.Goals as goal
use Rattle.std.proofs.Common.{arith}

pub returns-clause-remains : goal.returns-clause-remains
returns-clause-remains g c = grind (arith, c.in_ok-forget.ensures.remains, c.in_ok-remains.ensures.remains)
