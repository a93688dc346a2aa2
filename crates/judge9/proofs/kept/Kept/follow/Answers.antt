use Rattle.judge9.proofs.Words.{terms_for}
use Rattle.judge9.proofs.kept.Kept.follow.Goals as goal
use Rattle.judge9.proofs.Keeping.{break_why, breaks_last, keeps_next, kept_of, late_why}

pub why_of-requires : goal.why_of-requires
why_of-requires g c = λ no_run.
    let (scope, profile, rows, h, keeps, a) = c.requires.advances in
    rw (c.replace-kept.ensures.value, a.stands.same_profile) (breaks_last keeps a c.in-Break.broken c.in-Break.is no_run)

pub returns-in_ok-keep-in-Exchange-clause-keeps : goal.returns-in_ok-keep-in-Exchange-clause-keeps
returns-in_ok-keep-in-Exchange-clause-keeps g c = λ scope profile rows h keeps a.
    keeps_next keeps a c.keep.new.self (rw c.in-Exchange.is (c.in_ok-keep-in-Exchange.ensures.kept, c.in_ok-keep-in-Exchange.ensures.end))

pub returns-in_ok-why_late-in-LateReply-clause-why : goal.returns-in_ok-why_late-in-LateReply-clause-why
returns-in_ok-why_late-in-LateReply-clause-why g c = λ scope profile rows h keeps a.
    late_why (terms_for scope.extent profile) a.front a.next c.args.judging.now.feed c.args.event c.in_ok-why_late-in-LateReply.field-0 c.in-LateReply.first c.in-LateReply.is a.tells c.in_ok-why_late-in-LateReply.ensures

pub returns-in_ok-why_of-in-Break-clause-why : goal.returns-in_ok-why_of-in-Break-clause-why
returns-in_ok-why_of-in-Break-clause-why g c = λ scope profile rows h keeps a.
    break_why (terms_for scope.extent profile) a.front a.next c.args.judging.now.feed c.args.event c.in_ok-why_of-in-Break.field-0 c.in-Break.broken c.args.self.now.exchanges.items c.args.self.now.end_us c.in-Break.is a.tells (λ t. kept_of keeps a t)
    (rw (c.replace-kept.ensures.value, a.stands.same_profile) at c.in_ok-why_of-in-Break.ensures)
