use Rattle.std.specs.Prelude.{None}
use Rattle.judge9.specs.Standing.{CanGoOn, left_of}
use Rattle.judge9.specs.declared.kept.Kept.{Kept}
use Rattle.judge9.proofs.Reports.{SoFar}
use Rattle.report9.specs.declared.verdict.View.TheVariants as view
use Rattle.show9.proofs.follow.show_events.Given as goal

-- a report on the verdict alone has come so far
abbrev pub invariant-events : goal.invariant-events
invariant-events g l = record {
  kept : Kept;
  so_far : SoFar view.Verdict l.fn.judging.scope l.fn.judging.profile.now l.fn.judging.feed.rows.rows None None kept l.judging;
  ready : CanGoOn l.judging.stage l.judging.feed;
}

abbrev pub decreases-events : goal.decreases-events
decreases-events g l = left_of l.judging
