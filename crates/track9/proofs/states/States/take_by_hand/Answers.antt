use Rattle.track9.proofs.Words.{Deed, Follows, on_ok_weaker, states_rate, States}
use Rattle.track9.specs.Working.Acting.{Acted}
use Rattle.track9.proofs.Words.{arith, Everything, false, hands_of, profile_of, subst, sym, true, ◌≡◌}
use Rattle.deck9.specs.declared.effect.Effect.TheVariants as effect
use Rattle.track9.specs.declared.deed.Deed.TheVariants as deed
use Rattle.deck9.specs.declared.state.Hands.TheVariants as hands
use Rattle.track9.proofs.states.States.take_by_hand.Goals as goal
use Rattle.track9.proofs.PanelLemmas.{deck_of, follows_forget, follows_panel, passed_panel, touched}

-- where hands are allowed
by_hand : (acted : Acted) (d : Deed) (v w : States) → hands_of v ≡ hands.Allowed → Follows (touched acted.deck (states_rate v)) acted.on d v w
    → Follows (profile_of acted.deck v) acted.on d v w
by_hand acted d v w allowed follows = subst (λ h. Follows (deck_of acted.deck (states_rate v) h) acted.on d v w) (sym allowed) follows

pub returns-then-may_stay-clause-ok : goal.returns-then-may_stay-clause-ok
returns-then-may_stay-clause-ok g c =
    let d : Deed = deed.Apply (effect.Panel c.in-Apply-Panel-default.on) true in
    let is : c.args.deed.now ≡ d = grind arith in
    rw is (on_ok_weaker c.pass_panel.result (λ new. rw new (by_hand c.args.acting.now d c.args.self.now _ c.requires.hands
    (passed_panel c.args.acting.now c.in-Apply-Panel-default.on c.args.self.now c.requires.whole c.below_day.ensures))) c.pass_panel.ensures.ok)

pub returns-else-may_stay-clause-ok : goal.returns-else-may_stay-clause-ok
returns-else-may_stay-clause-ok g c =
    let d : Deed = deed.Apply (effect.Panel c.in-Apply-Panel-default.on) false in
    let is : c.args.deed.now ≡ d = grind arith in
    rw is (on_ok_weaker c.switch_panel.result (λ new. rw new (by_hand c.args.acting.now d c.args.self.now _ c.requires.hands
    (follows_panel c.args.acting.now c.in-Apply-Panel-default.on c.args.self.now c.requires.whole c.below_day.ensures))) c.switch_panel.ensures.ok)

pub returns-in-Apply-Forget-Everything-default-clause-ok : goal.returns-in-Apply-Forget-Everything-default-clause-ok
returns-in-Apply-Forget-Everything-default-clause-ok g c =
    let d : Deed = deed.Apply (effect.Forget Everything) c.in-Apply-Forget-Everything-default.may_stay in
    let is : c.args.deed.now ≡ d = grind arith in
    rw is (on_ok_weaker c.forget_all.result (λ new. rw new (by_hand c.args.acting.now d c.args.self.now _ c.requires.hands
    (follows_forget c.args.acting.now c.in-Apply-Forget-Everything-default.may_stay c.args.self.now c.requires.hands c.requires.whole c.below_day.ensures))) c.forget_all.ensures.ok)
