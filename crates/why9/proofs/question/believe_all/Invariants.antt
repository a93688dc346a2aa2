-- What is asked of all exchanges is asked of those that are left, from the states that the tracker keeps, and what may then be going on.
use Rattle.why9.proofs.Words.{HasBelievingFrom, HasBelievingFromPlace, Possible, true, ◌↔◌, ◌≡◌}
use Rattle.why9.proofs.question.believe_all.Given as goal

abbrev pub invariant-loop-exchange : goal.invariant-loop-exchange
invariant-loop-exchange l = record {
  profile : l.tracker.profile ≡ l.fn.tracker.profile;
  goes : HasBelievingFrom l.fn.tracker.profile l.fn.tracker.going (Possible l.fn.tracker.states) (λ k. true) l.exchanges
      ↔ HasBelievingFromPlace l.fn.tracker.profile l.tracker.going (Possible l.tracker.states) l.exchange-index (λ k. true) l.exchanges;
}
