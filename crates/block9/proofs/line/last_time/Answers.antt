use Rattle.block9.proofs.SpellingLemmas.{last_time-last}
use Rattle.block9.proofs.line.last_time.Goals as goal

pub returns-in-Some : goal.returns-in-Some
returns-in-Some c = last_time-last c.args.records.now c.in-Some.last.now c.in-Some.ensures.value
