-- the lines of the answers so far
use Rattle.std.proofs.Common.{take, ◌≡◌}
use Rattle.std.specs.List.{flat_map}
use Rattle.asking9.specs.Asking.{line_of_answer}
use Rattle.maker9.proofs.lines.lines_of.Given as goal

abbrev pub invariant-loop-answer : goal.invariant-loop-answer
invariant-loop-answer l = l.text.items ≡ flat_map line_of_answer (take l.answer-index l.answers)
