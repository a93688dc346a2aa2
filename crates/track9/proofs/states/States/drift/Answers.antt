use Rattle.track9.proofs.Words.{Acts, ap, DriftsAndGoes, hands_of, option_map, halves_rate, sym, ◌∙◌}
use Rattle.track9.proofs.states.States.drift.Goals as goal
use Rattle.track9.proofs.PanelLemmas.{leads_off, none_on, take_panel}

pub returns-in_ok-take-in-None-clause-ok : goal.returns-in_ok-take-in-None-clause-ok
returns-in_ok-take-in-None-clause-ok g c =
    let rate = halves_rate c.self.inside.off in
    let d = c.nothing-nothing.result in
    rw (← c.nothing-nothing.ensures) (rw (← c.self.view_is, none_on (option_map (λ b. b.value) c.self.inside.on) (ap hands_of c.self.view_is ∙ sym c.hands.ensures ∙ c.in-None.is))
    (leads_off c.args.acting.now.deck rate (λ p. DriftsAndGoes (Acts d) p c.args.acting.now.on) _ (take_panel c.args.acting.now rate d) c.self.inside.off c.take.new.self c.in_ok-take-in-None.ensures.ok))
