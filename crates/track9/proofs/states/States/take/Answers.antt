use Rattle.track9.proofs.Words.{Acts, ap, DriftsAndGoes, hands_of, on_ok_weaker, option_map, halves_rate, sym, ◌∙◌}
use Rattle.track9.specs.Working.Acting.{Acted}
use Rattle.track9.specs.Working.Deed.{deed_of}
use Rattle.track9.proofs.states.States.take.Goals as goal
use Rattle.track9.proofs.PanelLemmas.{leads_off, none_on, take_panel}
use Rattle.std.proofs.Common.{arith}

pub returns-in-None-clause-ok : goal.returns-in-None-clause-ok
returns-in-None-clause-ok g c =
    let rate = halves_rate c.self.inside.off in
    let d = c.of.result in
    rw (← rw c.rate-rate.ensures at (c.of.ensures ∙ ap (λ (a : Acted). deed_of a.deck c.rate-rate.result c.args.command.now (option_map (λ b. b.now) c.args.reply)) c.acting.view_is)) (rw (← c.self.view_is, none_on (option_map (λ b. b.value) c.self.inside.on) (ap hands_of c.self.view_is ∙ sym c.hands.ensures ∙ c.in-None.is))
    (on_ok_weaker c.take.result (leads_off c.args.acting.now.deck rate (λ p. DriftsAndGoes (Acts d) p c.args.acting.now.on) _ (take_panel c.args.acting.now rate d) c.self.inside.off
    c.take.new.self) c.take.ensures.ok))

pub returns-in-None-clause-some : goal.returns-in-None-clause-some
returns-in-None-clause-some = grind arith
