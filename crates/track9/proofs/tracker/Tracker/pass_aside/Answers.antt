use Rattle.track9.proofs.tracker.Tracker.pass_aside.Goals as goal

pub returns-in-Ok-clause-reached : goal.returns-in-Ok-clause-reached
returns-in-Ok-clause-reached g c = rw c.replace.ensures.after (rw c.in_ok-next.ensures at c.in-Ok.ensures.reached)

pub returns-in-Ok-clause-remains : goal.returns-in-Ok-clause-remains
returns-in-Ok-clause-remains g c = rw c.replace.ensures.after (rw c.in_ok-next.ensures at c.in-Ok.ensures.remains)
