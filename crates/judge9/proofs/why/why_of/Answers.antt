use Rattle.judge9.proofs.why.why_of.Goals as goal
use Rattle.judge9.proofs.WhySteps.{no_run_said}

pub returns-in-NoRun : goal.returns-in-NoRun
returns-in-NoRun g c =
    let said = rw c.at.ensures at c.why_no_run.ensures in
    no_run_said _ _ c.args.broken c.args.judging.now.feed.follower.pairer c.args.kept.exchanges.items c.args.kept.end_us c.exchange-last.result.now c.in-NoRun.is
    c.exchange-last.ensures c.why_no_run.result said
