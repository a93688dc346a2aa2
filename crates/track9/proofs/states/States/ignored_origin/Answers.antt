use Rattle.track9.proofs.states.States.ignored_origin.Goals as goal
use Rattle.track9.proofs.BeforeLemmas.{local_state}

pub origin-requires-clause-wanted : goal.origin-requires-clause-wanted
origin-requires-clause-wanted g c = rw c.in_local.ensures (local_state _ c.args.wanted.now (c.is_wanted-is_local.ensures.is.0 c.if-not-is_local.false) c.requires.wanted)
