use Rattle.track9.proofs.Words.{AreForgotten, halves_forgotten, halves_of, Some, States, subst, sym, true, ◌≡◌}
use Rattle.track9.proofs.states.States.forget_both.Goals as goal
use Rattle.track9.proofs.ForgetLemmas.{forget_both}

pub returns-in-Ok-clause-ok : goal.returns-in-Ok-clause-ok
returns-in-Ok-clause-ok g c =
    let f = c.args.forgotten in
    let v = c.args.self.now in
    let off : c.forget.new.self ≡ halves_forgotten f v.off = subst (λ (v : States). c.forget.new.self ≡ halves_forgotten f v.off) c.self.view_is c.in-Ok.ensures.ok in
    rw c.put_on.ensures (subst (λ on. AreForgotten f v (record { off = c.forget.new.self; on = Some on })) (sym c.in_ok-on.ensures)
    (subst (λ off. AreForgotten f v (record { off = off; on = Some (halves_forgotten f (halves_of v true)) })) (sym off) (forget_both f v c.requires.some c.requires.hands c.requires.whole)))
