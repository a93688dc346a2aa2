-- The last span is set.
use Rattle.sets25.proofs.Lemmas.{arith, ended_at-set}
use Rattle.sets25.proofs.span_list.end_at.Goals as goal

pub returns-in-Some : goal.returns-in-Some
returns-in-Some c = grind (arith, ended_at-set c.args.last c.in-Some.index c.args.list.now.items c.index_mut.result.now)
