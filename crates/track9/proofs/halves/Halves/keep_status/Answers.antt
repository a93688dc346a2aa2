use Rattle.track9.proofs.Words.{ap, halves_status}
use Rattle.track9.proofs.halves.Halves.keep_status.Goals as goal

pub returns : goal.returns
returns g c = rw (c.keep_status.ensures, c.keep_status-2.ensures) (ap (halves_status c.args.status.now) c.self.view_is)
