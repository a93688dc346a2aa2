use Rattle.judge9.proofs.Words.{GivesAll, greatest_limit, last_of, LineByte, List, NoneBegins, ◌-◌, ◌≡◌}
use Rattle.judge9.proofs.beginning.pass_over.Given as goal

-- none of the records so far may begin a command
abbrev pub invariant-passed : goal.invariant-passed
invariant-passed g l = record {
  passed : List LineByte;
  none_begins : NoneBegins l.fn.last passed;
  gives : GivesAll l.fn.rows passed l.rows;
  is_last : l.last ≡ last_of l.fn.last passed;
}

abbrev pub decreases-passed : goal.decreases-passed
decreases-passed g l = greatest_limit - l.rows.given
