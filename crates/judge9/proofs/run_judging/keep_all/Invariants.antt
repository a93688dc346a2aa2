use Rattle.judge9.proofs.Words.{[], CanGoOn, left_of, None, View, ◌≡◌}
use Rattle.judge9.proofs.run_judging.keep_all.Given as goal
use Rattle.judge9.proofs.Reports.{SoFar}

-- a report on the verdict alone has come so far, and the exchanges of the part were kept, unless it broke
abbrev pub invariant-events : goal.invariant-events
invariant-events g l = record {
  so_far : SoFar View.Verdict l.fn.judging.scope l.fn.judging.profile.now l.fn.judging.feed.rows.rows None None l.kept l.judging;
  same : so_far.history.broken ≡ [] → l.kept.exchanges.items ≡ so_far.history.part.exchanges;
  ready : CanGoOn l.judging.stage l.judging.feed;
}

abbrev pub decreases-events : goal.decreases-events
decreases-events g l = left_of l.judging
