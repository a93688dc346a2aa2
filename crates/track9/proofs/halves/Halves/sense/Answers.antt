-- Each part has the rate of both.
use Rattle.track9.proofs.halves.Halves.sense.Goals as goal

pub sense_aside-requires : goal.sense_aside-requires
sense_aside-requires g c = let whole = rw (← c.self.view_is) at c.requires in (_, whole.remote)

pub sense_aside-requires-2 : goal.sense_aside-requires-2
sense_aside-requires-2 g c = let whole = rw (← c.self.view_is) at c.requires in (_, whole.local)

pub knows-requires : goal.knows-requires
knows-requires g c = let whole = rw (← c.self.view_is) at c.requires in (_, whole.remote)

pub knows-requires-then-knows : goal.knows-requires-then-knows
knows-requires-then-knows g c = let whole = rw (← c.self.view_is) at c.requires in (_, whole.local)
