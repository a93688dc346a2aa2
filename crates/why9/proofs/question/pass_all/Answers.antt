use Rattle.why9.proofs.Words.{Possible, take, take_more, ◌∙◌}
use Rattle.why9.proofs.QuestionLemmas.{passed-more, taken_with}
use Rattle.why9.proofs.question.pass_all.Goals as goal

pub loop-exchange-preserved : goal.loop-exchange-preserved
loop-exchange-preserved c = record {
  profile = c.in_ok-take_unknown.ensures.profile ∙ c.loop-exchange.invariant.profile;
  passed = rw (take_more c.args.exchanges.now c.loop-exchange.exchange-index c.exchange-item.result c.loop-exchange-test.true, ← c.exchange-item.is)
      (passed-more _ _ c.loop-exchange.tracker.going _ _ (Possible c.loop-exchange.tracker.states) _ (take c.loop-exchange.exchange-index c.args.exchanges.now)
      c.exchange-item.result c.loop-exchange.invariant.passed (taken_with (Possible c.loop-exchange.tracker.states) (Possible c.take_unknown.new.self.states)
      c.loop-exchange.invariant.profile c.in_ok-take_unknown.ensures.reached c.in_ok-take_unknown.ensures.going));
}
