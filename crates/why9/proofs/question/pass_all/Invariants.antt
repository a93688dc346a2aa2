-- The exchanges so far are passed.
use Rattle.why9.proofs.Words.{ArePassed, Possible, take, ◌≡◌}
use Rattle.why9.proofs.question.pass_all.Given as goal

abbrev pub invariant-loop-exchange : goal.invariant-loop-exchange
invariant-loop-exchange l = record {
  profile : l.tracker.profile ≡ l.fn.tracker.profile;
  passed : ArePassed l.fn.tracker.profile l.fn.tracker.going (Possible l.fn.tracker.states) (take l.exchange-index l.exchanges) l.tracker.going
      (Possible l.tracker.states);
}
