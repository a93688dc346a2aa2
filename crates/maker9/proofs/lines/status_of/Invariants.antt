-- none of the answers so far is a yes
use Rattle.std.proofs.Common.{false, take, ◌≡◌}
use Rattle.std.specs.List.{list_any}
use Rattle.asking9.specs.Asking.{is_yes}
use Rattle.maker9.proofs.lines.status_of.Given as goal

abbrev pub invariant-loop-answer : goal.invariant-loop-answer
invariant-loop-answer l = list_any (λ a. is_yes a.ended) (take l.answer-index l.answers) ≡ false
