-- What is kept is the time alone, where it is a member, and else nothing.
use Rattle.sets25.proofs.Lemmas.{arith, kept_of}
use Rattle.sets25.specs.SharedSet.{members_of}
use Rattle.sets25.specs.Working.SharedSets.{shared_set_below}
use Rattle.sets25.proofs.shared_set.SharedSetTimeSet.keep_only.Goals as goal

pub returns-clause-ok : goal.returns-clause-ok
returns-clause-ok c =
    let is = kept_of c.args.self.now.own.rate (members_of c.args.self.now) (shared_set_below c.args.self.now) c.args.time in
    grind arith
