-- The next place is between `place` and `high`, and the tracker has passed up to `place`.
use Rattle.why9.proofs.Words.{ArePassedTo, IsBetween, Possible, ◌-◌, ◌<◌, ◌≡◌, ◌≤◌}
use Rattle.why9.proofs.search.next_place.Given as goal

abbrev pub invariant-loop-place : goal.invariant-loop-place
invariant-loop-place l = record {
  step : 0 < l.step;
  next_step : 0 < l.next_step;
  profile : l.tracker.profile ≡ l.fn.tracker.profile;
  above : l.low ≤ l.place;
  between : IsBetween l.fn.tracker.profile l.tracker.going (Possible l.tracker.states) l.exchanges l.place l.high;
  passed : ArePassedTo l.fn.tracker.profile l.exchanges l.low l.fn.tracker.going (Possible l.fn.tracker.states) l.place l.tracker.going (Possible l.tracker.states);
}

abbrev pub decreases-loop-place : goal.decreases-loop-place
decreases-loop-place l = l.high - l.place
