-- The places so far are found, and the tracker has gone through what is before the last of them.
use Rattle.why9.proofs.Words.{length, Possible, ◌-◌, ◌≡◌}
use Rattle.why9.proofs.SearchLemmas.{IsReached}
use Rattle.why9.proofs.search.find_places.Given as goal

abbrev pub invariant-loop-place : goal.invariant-loop-place
invariant-loop-place l = record {
  profile : l.tracker.profile ≡ l.fn.tracker.profile;
  reached : IsReached l.fn.tracker.profile l.tracker.going (Possible l.tracker.states) l.exchanges l.place l.places.items;
}

abbrev pub decreases-loop-place : goal.decreases-loop-place
decreases-loop-place l = length l.exchanges - l.place
