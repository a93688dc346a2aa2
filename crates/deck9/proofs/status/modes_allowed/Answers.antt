use Rattle.deck9.proofs.Words.{Cued, Eject, FastForward, Jog, may_show, Play, Rec, Rewind, Shuttle, Stop, Var}
use Rattle.deck9.proofs.status.modes_allowed.Goals as goal
use Rattle.deck9.proofs.StatusLemmas.{none_allowed, one_more}

pub returns : goal.returns
returns c =
    let p = may_show c.args.datum1 c.args.datum2 in
    let eject = one_more p Eject (none_allowed p) c.with_allowed-allowed.ensures in
    let cued = one_more p Cued eject c.with_allowed-allowed-2.ensures in
    let var = one_more p Var cued c.with_allowed-allowed-3.ensures in
    let jog = one_more p Jog var c.with_allowed-allowed-4.ensures in
    let shuttle = one_more p Shuttle jog c.with_allowed-allowed-5.ensures in
    let rewind = one_more p Rewind shuttle c.with_allowed-allowed-6.ensures in
    let forward = one_more p FastForward rewind c.with_allowed-allowed-7.ensures in
    let rec = one_more p Rec forward c.with_allowed-allowed-8.ensures in
    let play = one_more p Play rec c.with_allowed-allowed-9.ensures in
    (one_more p Stop play c.with_allowed.ensures).is
