-- What is kept, the current span and what is to come are the whole, widened and joined.
use Rattle.sets25.proofs.Words.{drop, glue, joined, longest_day, map, take, widened_span, ◌++◌, ◌<◌, ◌≡◌}
use Rattle.sets25.proofs.spans.widen_all.Given as goal

abbrev pub invariant-loop-index : goal.invariant-loop-index
invariant-loop-index l = record {
  behind : l.kept < l.index;
  in_day : l.current.last < longest_day;
  to_come : drop l.index l.spans ≡ drop l.index l.fn.spans;
  whole : take l.kept l.spans ++ glue l.current (joined (map (widened_span l.rate l.direction) (drop l.index l.fn.spans)))
      ≡ joined (map (widened_span l.rate l.direction) l.fn.spans);
}
