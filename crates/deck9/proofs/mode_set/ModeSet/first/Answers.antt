use Rattle.deck9.proofs.mode_set.ModeSet.first.Goals as goal
use Rattle.deck9.proofs.ModeSetLemmas.{last_mode, some_mode}

pub returns-else-has-9 : goal.returns-else-has-9
returns-else-has-9 c =
    let w = some_mode c.args.self c.requires in
    last_mode c.args.self w.0 w.1 (cc) (cc) (cc) (cc) (cc) (cc) (cc) (cc) (cc)
