use Rattle.judge9.proofs.FirstBreak.{first_late}
use Rattle.judge9.proofs.PartLaws.{first_in_time}
use Rattle.judge9.proofs.laws.the_first_break_is_the_verdict.Goals as goal

pub returns-clause-late : goal.returns-clause-late
returns-clause-late c = first_late

pub returns-clause-end : goal.returns-clause-end
returns-clause-end c profile items b broken left parts none = first_in_time left b broken parts none
