use Rattle.report9.proofs.Words.{drop, lines_at, records_in, ◌*◌, ◌++◌, ◌+◌, ◌-◌, ◌≡◌, ◌≤◌}
use Rattle.report9.proofs.why_text.put_lines.Given as goal

-- what stands there, with the lines that are still to come, is the whole
abbrev pub invariant-loop-place : goal.invariant-loop-place
invariant-loop-place l = record {
  few : l.at ≤ 4294967296 + 36 * l.place-counter;
  lines : l.text.items ++ lines_at l.profile l.places l.place-counter l.at (drop l.place-counter l.exchanges)
      ≡ l.fn.text.items ++ lines_at l.profile l.places 0 (l.last - records_in l.exchanges) l.exchanges;
}
