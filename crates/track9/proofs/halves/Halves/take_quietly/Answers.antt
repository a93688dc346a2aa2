use Rattle.track9.proofs.Words.{halves_rate, on_ok_weaker}
use Rattle.track9.specs.declared.deed.Deed.TheVariants as deed
use Rattle.track9.proofs.halves.Halves.take_quietly.Goals as goal
use Rattle.track9.proofs.EffectLemmas.{taken, taken_read, taken_report}

pub returns-in-Read-clause-ok : goal.returns-in-Read-clause-ok
returns-in-Read-clause-ok g c = rw c.in-Read.is (on_ok_weaker c.read.result
    (λ new. rw new (taken_read c.args.acting.now (halves_rate c.args.self.now) c.in-Read.register c.in-Read.time c.args.self.now c.requires)) c.read.ensures.ok)

pub returns-in-Report-clause-ok : goal.returns-in-Report-clause-ok
returns-in-Report-clause-ok g c = rw (c.in-Report.is, c.report.ensures.kept)
    (taken_report c.args.acting.now (halves_rate c.args.self.now) c.in-Report.status c.args.self.now c.requires)

pub returns-in-Apply-clause-ok : goal.returns-in-Apply-clause-ok
returns-in-Apply-clause-ok g c = rw c.in-Apply.is (on_ok_weaker c.apply.result
    (taken c.args.acting.now (halves_rate c.args.self.now) (deed.Apply c.in-Apply.effect c.in-Apply.may_stay) c.args.self.now c.apply.new.self c.requires) c.apply.ensures.ok)
