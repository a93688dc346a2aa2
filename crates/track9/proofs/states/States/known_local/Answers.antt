use Rattle.track9.proofs.states.States.known_local.Goals as goal
use Rattle.track9.proofs.KnownLemmas.{local_known}

pub returns : goal.returns
returns g c = rw (c.known_fact.ensures, c.remains_in_remote.ensures, c.remains_in_local.ensures) (local_known c.args.self.now c.requires.whole c.requires.some)
