use Rattle.track9.proofs.Words.{arith, false_from_ne_true, profile_of, states_rate, states_remain, ◌∙◌}
use Rattle.track9.proofs.tracker.Tracker.observe.Goals as goal
use Rattle.track9.proofs.DeedLemmas.{deed_counts, deed_frugal, deed_reaches}
use Rattle.track9.proofs.KnownLemmas.{tracked_after, whole_at_rate, remains_where}
use Rattle.track9.proofs.PartLemmas.{live_some}

pub invariant_of-self-2 : goal.invariant_of-self-2
invariant_of-self-2 g c = rw (c.count_exchange.ensures, c.in_ok-remains.ensures.some) (rw (deed_counts c.self.inside.acting.deck _ c.args.command.now c.args.reply.now _ c.self.inside.presets) at
    (tracked_after _ c.self.inside.states c.take.new.self _ c.self.inside.acting.on c.self.inside.presets c.self.invariant c.in_ok-remains.ensures.ok))

pub returns-clause-reached : goal.returns-clause-reached
returns-clause-reached g c = rw (← c.self.view_is) (deed_reaches (profile_of c.self.inside.acting.deck c.self.inside.states) c.self.inside.acting.on c.args.command.now c.args.reply.now _ _
    c.in_ok-remains.ensures.ok.reached)

pub returns-in_err-remains-clause-frugal : goal.returns-in_err-remains-clause-frugal
returns-in_err-remains-clause-frugal g c = grind (arith, deed_frugal c.self.inside.acting.deck (states_rate c.self.inside.states) c.args.command.now c.args.reply.now, c.self.view_is)

pub returns-clause-remains : goal.returns-clause-remains
returns-clause-remains g c = rw c.in_ok-remains.ensures.some (remains_where c.take.new.self (whole_at_rate _ c.take.new.self c.in_ok-remains.ensures.ok.profile c.in_ok-remains.ensures.ok.whole))

pub returns-clause-over : goal.returns-clause-over
returns-clause-over g c = rw (← c.self.view_is) (λ none. c.in_ok-remains.ensures.some ∙ false_from_ne_true (states_remain c.take.new.self) (λ live.
    let a = live_some _ c.take.new.self c.in_ok-remains.ensures.ok.whole live in
    let from = c.in_ok-remains.ensures.ok.reached.0 a.0 a.1 in none (from.0, from.1)))
