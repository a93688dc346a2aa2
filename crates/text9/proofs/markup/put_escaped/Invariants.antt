use Rattle.std.proofs.Common.{drop, take, ◌++◌, ◌-◌, ◌≡◌, ◌≤◌}
use Rattle.text9.specs.Markup.{escaped}
use Rattle.text9.proofs.markup.put_escaped.Given as goal

-- what stands there, with the run that is not yet put and what is still to come, is the whole
abbrev pub invariant-loop-at : goal.invariant-loop-at
invariant-loop-at l =
    (l.text.items ++ (take (l.at - l.from) (drop l.from l.foreign) ++ escaped (drop l.at l.foreign)) ≡ l.fn.text.items ++ escaped l.foreign)
    × (l.from ≤ l.at)
