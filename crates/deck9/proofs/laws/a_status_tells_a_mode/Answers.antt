use Rattle.deck9.proofs.StatusLemmas.{alone, cued_or_eject, cued_or_other, cued_or_stop}
use Rattle.deck9.proofs.laws.a_status_tells_a_mode.Goals as goal

pub returns : goal.returns
returns c = record { alone = alone; cued_or_stop = cued_or_stop; cued_or_eject = cued_or_eject; cued = cued_or_other }
