use Rattle.std.specs.Prelude.{None}
use Rattle.judge9.specs.Keeping.{KeepsPart}
use Rattle.judge9.specs.Standing.{CanGoOn, left_of}
use Rattle.judge9.proofs.Reports.{SoFar}
use Rattle.report9.specs.declared.verdict.View.TheVariants as view
use Rattle.show9.proofs.follow.explain_events.Given as goal

-- a report on the verdict alone has come so far, and the exchanges of the part are kept
abbrev pub invariant-events : goal.invariant-events
invariant-events g l = record {
  so_far : SoFar view.Verdict l.fn.judging.scope l.fn.judging.profile.now l.fn.judging.feed.rows.rows None None l.kept l.judging;
  keeps : KeepsPart so_far.history l.kept;
  ready : CanGoOn l.judging.stage l.judging.feed;
}

abbrev pub decreases-events : goal.decreases-events
decreases-events g l = left_of l.judging
