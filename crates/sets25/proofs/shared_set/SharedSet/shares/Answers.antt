use Rattle.sets25.proofs.Lemmas.{arith, nat_cmp, sym}
use Rattle.std.specs.FinSet as set
use Rattle.sets25.proofs.shared_set.SharedSet.shares.Goals as goal

pub returns-in-Some : goal.returns-in-Some
returns-in-Some c = grind arith

pub returns-in-None : goal.returns-in-None
returns-in-None c = rw c.in-None.is (sym (set.contains-empty nat_cmp c.args.time))
