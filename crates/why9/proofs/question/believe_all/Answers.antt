use Rattle.why9.proofs.Words.{false≢true, Possible, refl, sym, true, ◌∙◌}
use Rattle.why9.proofs.QuestionLemmas.{goes-past-nak, goes-through, taken_with}
use Rattle.why9.proofs.question.believe_all.Goals as goal

pub returns-then-not-branch : goal.returns-then-not-branch
returns-then-not-branch c =
    let taken = taken_with (Possible c.loop-exchange.tracker.states) (Possible c.believe.new.tracker.states) c.loop-exchange.invariant.profile
    c.in_ok-believe.ensures.reached c.in_ok-believe.ensures.going in
    let through = goes-through _ _ _ (Possible c.loop-exchange.tracker.states) (Possible c.believe.new.tracker.states) (λ k. true) c.args.exchanges.now
    c.loop-exchange.exchange-index c.exchange-item.result true c.loop-exchange-test.true c.exchange-item.is refl taken in (
      λ t. absurd (false≢true t),
      λ w.
          let g = through.0 (c.loop-exchange.invariant.goes.0 w) in
          absurd (false≢true (sym c.if-not-branch.true ∙ c.in_ok-believe.ensures.remains.1 (g.0, g.1))),
    )

pub loop-exchange-preserved : goal.loop-exchange-preserved
loop-exchange-preserved c =
    let taken = taken_with (Possible c.loop-exchange.tracker.states) (Possible c.believe.new.tracker.states) c.loop-exchange.invariant.profile
    c.in_ok-believe.ensures.reached c.in_ok-believe.ensures.going in
    let through = goes-through _ _ _ (Possible c.loop-exchange.tracker.states) (Possible c.believe.new.tracker.states) (λ k. true) c.args.exchanges.now
    c.loop-exchange.exchange-index c.exchange-item.result true c.loop-exchange-test.true c.exchange-item.is refl taken in
    record {
      profile = c.in_ok-believe.ensures.profile ∙ c.loop-exchange.invariant.profile;
      goes = (λ w. through.0 (c.loop-exchange.invariant.goes.0 w), λ g. c.loop-exchange.invariant.goes.1 (through.1 g));
    }

pub loop-exchange-preserved-then-is_nak : goal.loop-exchange-preserved-then-is_nak
loop-exchange-preserved-then-is_nak c =
    let past = goes-past-nak c.args.tracker.now.profile c.loop-exchange.tracker.going (Possible c.loop-exchange.tracker.states) c.args.exchanges.now
    c.loop-exchange.exchange-index c.exchange-item.result c.loop-exchange-test.true c.exchange-item.is (sym c.is_nak.ensures ∙ c.if-is_nak.true) in
    record {
      profile = c.loop-exchange.invariant.profile;
      goes = (λ w. past.0 (c.loop-exchange.invariant.goes.0 w), λ g. c.loop-exchange.invariant.goes.1 (past.1 g));
    }
