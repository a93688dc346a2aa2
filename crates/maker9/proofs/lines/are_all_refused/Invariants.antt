-- the answers so far were refused
use Rattle.std.proofs.Common.{take, true, ◌≡◌}
use Rattle.maker9.specs.Trying.{all_refused}
use Rattle.maker9.proofs.lines.are_all_refused.Given as goal

abbrev pub invariant-loop-answer : goal.invariant-loop-answer
invariant-loop-answer l = all_refused (take l.answer-index l.answers) ≡ true
