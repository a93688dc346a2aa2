use Rattle.track9.proofs.Words.{ap, hands_of, on_ok_weaker, option_map, states_rate, States, subst, sym, HalvesWhole, ◌∙◌}
use Rattle.track9.proofs.states.States.forget.Goals as goal
use Rattle.track9.proofs.ForgetLemmas.{forget_off}
use Rattle.track9.proofs.PanelLemmas.{none_on}

pub returns-in-None-clause-ok : goal.returns-in-None-clause-ok
returns-in-None-clause-ok g c =
    rw (← c.self.view_is, none_on (option_map (λ b. b.value) c.self.inside.on) (ap hands_of c.self.view_is ∙ sym c.hands.ensures ∙ c.in-None.is))
    (on_ok_weaker c.forget.result (λ new. rw new (forget_off c.args.forgotten c.self.inside.off (subst (λ (v : States). HalvesWhole (states_rate v) v.off) (sym c.self.view_is) c.requires.off)))
    c.forget.ensures.ok)
