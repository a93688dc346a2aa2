use Rattle.track9.proofs.Words.{false, refl, RegAudioIn, RegAudioOut, RegIn, RegOut, State}
use Rattle.track9.proofs.states.before.origin_in.Goals as goal
use Rattle.track9.proofs.BeforeLemmas.{comes_to_wanted, entry_after, if_none_so, no_entry_runs}
use Rattle.track9.proofs.PartLemmas.{each_register}

pub returns-in_err-entry_from-clause-none : goal.returns-in_err-entry_from-clause-none
returns-in_err-entry_from-clause-none g c = if_none_so c.from_residual-in_err-entry_from.result (no_entry_runs c.args.acting.now RegIn _ _ _ false (rw c.going-lost.ensures at c.in_err-entry_from.ensures.none))

pub returns-in_err-entry_from-2-clause-none : goal.returns-in_err-entry_from-2-clause-none
returns-in_err-entry_from-2-clause-none g c = if_none_so c.from_residual-in_err-entry_from-2.result (no_entry_runs c.args.acting.now RegOut _ _ _ false (rw c.going-lost.ensures at c.in_err-entry_from-2.ensures.none))

pub returns-in_err-entry_from-3-clause-none : goal.returns-in_err-entry_from-3-clause-none
returns-in_err-entry_from-3-clause-none g c = if_none_so c.from_residual-in_err-entry_from-3.result (no_entry_runs c.args.acting.now RegAudioIn _ _ _ false (rw c.going-lost.ensures at c.in_err-entry_from-3.ensures.none))

pub returns-in_err-entry_from-4-clause-none : goal.returns-in_err-entry_from-4-clause-none
returns-in_err-entry_from-4-clause-none g c = if_none_so c.from_residual-in_err-entry_from-4.result (no_entry_runs c.args.acting.now RegAudioOut _ _ _ false (rw c.going-lost.ensures at c.in_err-entry_from-4.ensures.none))

pub returns-clause-some : goal.returns-clause-some
returns-clause-some g c =
    let run = c.in_ok-pair.ensures.some.1 in
    let x = rw c.going-lost.ensures at c.in_ok-entry_from.ensures.some in let y = rw c.going-lost.ensures at c.in_ok-entry_from-2.ensures.some in
    let z = rw c.going-lost.ensures at c.in_ok-entry_from-3.ensures.some in let w = rw c.going-lost.ensures at c.in_ok-entry_from-4.ensures.some in
    let local = c.is_wanted-fits_local.ensures.is.0 c.if-not-fits_local.false in let panel = c.is_wanted-fits_panel.ensures.is.0 c.if-not-fits_panel.false in
    let xd = comes_to_wanted c.args.acting.now.on RegIn c.args.wanted.now.ins c.in_ok-entry_from.field-0 x.1 in
    let yd = comes_to_wanted c.args.acting.now.on RegOut c.args.wanted.now.outs c.in_ok-entry_from-2.field-0 y.1 in
    let zd = comes_to_wanted c.args.acting.now.on RegAudioIn c.args.wanted.now.ains c.in_ok-entry_from-3.field-0 z.1 in
    let wd = comes_to_wanted c.args.acting.now.on RegAudioOut c.args.wanted.now.aouts c.in_ok-entry_from-4.field-0 w.1 in
    let d : State = record {
      goal = run.0;
      shown = run.1;
      ins = entry_after c.args.wanted.now.ins c.in_ok-entry_from.field-0;
      outs = entry_after c.args.wanted.now.outs c.in_ok-entry_from-2.field-0;
      ains = entry_after c.args.wanted.now.ains c.in_ok-entry_from-3.field-0;
      aouts = entry_after c.args.wanted.now.aouts c.in_ok-entry_from-4.field-0;
      local = c.args.local;
      panel = false;
    } in (
      record {
        inside = record { pair = rw c.pairs.ensures at c.in_ok-pair.ensures.some.0; registers = each_register _ x.0 y.0 z.0 w.0 };
        local = refl;
        panel = refl;
      },
      (d, record { registers = each_register _ xd.0 yd.0 zd.0 wd.0; local = refl; panel = refl }, run.4, record { goal = run.2; shown = run.3; ins = xd.1; outs = yd.1; ains = zd.1; aouts = wd.1; local = local; panel = panel }),
    )
