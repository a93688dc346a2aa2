-- The spans so far have moved, and the others have not.
use Rattle.sets25.proofs.Words.{drop, map, shifted_span, take, ◌++◌, ◌≡◌}
use Rattle.sets25.proofs.spans.shift_all.Given as goal

abbrev pub invariant-loop-span : goal.invariant-loop-span
invariant-loop-span l = l.spans ≡ map (shifted_span l.rate l.direction) (take l.span-index l.fn.spans) ++ drop l.span-index l.fn.spans
