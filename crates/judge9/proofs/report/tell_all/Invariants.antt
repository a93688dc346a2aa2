use Rattle.judge9.proofs.Words.{CanGoOn, left_of, ◌≡◌}
use Rattle.judge9.proofs.report.tell_all.Given as goal
use Rattle.judge9.proofs.Reports.{SoFar}

-- all events so far were told
abbrev pub invariant-events : goal.invariant-events
invariant-events g l = record {
  so_far : SoFar l.fn.telling.view l.fn.judging.scope l.fn.judging.profile.now l.fn.judging.feed.rows.rows (g.W.Write.contents l.fn.writer) (g.W.Write.contents l.writer) l.telling.kept l.judging;
  ready : CanGoOn l.judging.stage l.judging.feed;
  view : l.telling.view ≡ l.fn.telling.view;
  profile : l.telling.profile.now ≡ l.fn.judging.profile.now;
}

abbrev pub decreases-events : goal.decreases-events
decreases-events g l = left_of l.judging
