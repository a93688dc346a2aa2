use Rattle.track9.proofs.Words.{false≢true}
use Rattle.track9.proofs.states.States.member.Goals as goal
use Rattle.track9.proofs.BeforeLemmas.{if_none}
use Rattle.track9.proofs.PartLemmas.{some_live}
use Rattle.std.proofs.Common.{arith}

pub returns-clause-none : goal.returns-clause-none
returns-clause-none = grind (arith, if_none, false≢true, some_live)
