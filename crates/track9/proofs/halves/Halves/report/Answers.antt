use Rattle.track9.proofs.Words.{refl}
use Rattle.track9.proofs.halves.Halves.report.Goals as goal

pub returns-clause-kept : goal.returns-clause-kept
returns-clause-kept g c = rw (c.keep_status.ensures, c.drift.ensures.drifted) refl
