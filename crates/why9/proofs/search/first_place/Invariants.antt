-- From `low` on the replies contradict one another, and from `high` on they do not.
use Rattle.why9.proofs.Words.{Contradict, HasBelieving, length, nat_le, ◌-◌, ◌<◌, ◌≤◌}
use Rattle.why9.proofs.search.first_place.Given as goal

abbrev pub invariant-loop-high : goal.invariant-loop-high
invariant-loop-high l = record {
  low_high : l.low < l.high;
  high_end : l.high ≤ length l.exchanges;
  contradict : Contradict l.tracker.profile (nat_le l.low) l.exchanges;
  after : HasBelieving l.tracker.profile (nat_le l.high) l.exchanges;
}

abbrev pub decreases-loop-high : goal.decreases-loop-high
decreases-loop-high l = l.high - l.low
