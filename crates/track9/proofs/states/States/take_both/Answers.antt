use Rattle.track9.proofs.Words.{Acts, all_or_none, arith, Follows, remains_with_panel_on, states_rate, Some, States, subst, sym, Taken}
use Rattle.track9.proofs.states.States.take_both.Goals as goal
use Rattle.track9.proofs.PanelLemmas.{deck_of, leads_both, narrow_take}
use Rattle.track9.proofs.PartLemmas.{whole_rate, whole_halves}

pub take-requires : goal.take-requires
take-requires g c = let rate = states_rate c.args.self.now in let live = remains_with_panel_on c.args.self.now in
    grind (arith, whole_rate rate (all_or_none rate live) (whole_halves rate live), whole_halves rate live)

pub returns-clause-ok : goal.returns-clause-ok
returns-clause-ok g c =
    let d = c.args.deed.now in
    let rate = states_rate c.args.self.now in
    let live = remains_with_panel_on c.args.self.now in
    let on = rw (whole_rate rate (all_or_none rate live) (whole_halves rate live)) at (rw c.in_ok-on.ensures at c.in_default.ensures.ok) in
    rw c.put_on.ensures (subst (λ h. Follows (deck_of c.args.acting.now.deck rate h) c.args.acting.now.on d c.args.self.now
    (record { off = c.take-2.new.self; on = Some c.take.new.self })) (sym c.requires.hands)
    (leads_both c.args.acting.now (Acts d) _ c.args.self.now c.take-2.new.self c.take.new.self
    (narrow_take c.args.acting.now rate d c.requires.narrow) c.requires.whole c.below_day.ensures
    (subst (λ (v : States). Taken c.args.acting.now (states_rate v) d v.off c.take-2.new.self) c.self.view_is c.in_default-take.ensures.ok) on))
