-- The last span goes where it is the last frame alone, and the first where it is the first frame.
use Rattle.sets25.proofs.Lemmas.{arith, canonical_parts, drop, edge_at_end, edge_at_start, nat_tests, take, take-append-drop, ◌-◌}
use Rattle.sets25.proofs.spans.drop_edge.Goals as goal

pub returns-then-index-last_frame-clause-dropped : goal.returns-then-index-last_frame-clause-dropped
returns-then-index-last_frame-clause-dropped c = grind (arith, nat_tests, edge_at_end c.args.rate 0 c.args.spans.now.items (c.len-count.result - 1) c.index.result.now c.requires.canonical c.requires.of_day)

pub returns-else-index-last_frame-clause-dropped : goal.returns-else-index-last_frame-clause-dropped
returns-else-index-last_frame-clause-dropped c = grind (arith, nat_tests, edge_at_end c.args.rate 0 c.args.spans.now.items (c.len-count.result - 1) c.index.result.now c.requires.canonical c.requires.of_day)

pub returns-then-index-last_frame-clause-canonical : goal.returns-then-index-last_frame-clause-canonical
returns-then-index-last_frame-clause-canonical c =
    let n = c.len-count.result - 1 in
    grind (arith, take-append-drop, canonical_parts 0 (take n c.args.spans.now.items) (drop n c.args.spans.now.items))

pub returns-then-index-eq0-clause-dropped : goal.returns-then-index-eq0-clause-dropped
returns-then-index-eq0-clause-dropped c = grind (arith, nat_tests, edge_at_start c.args.rate 0 c.args.spans.now.items c.index-in-Prev.result.now c.requires.canonical)

pub returns-else-index-eq0-clause-dropped : goal.returns-else-index-eq0-clause-dropped
returns-else-index-eq0-clause-dropped c =
    let edge = edge_at_start c.args.rate 0 c.args.spans.now.items c.index-in-Prev.result.now c.requires.canonical (omega arith) in
    rw c.in-Prev.is (grind (arith, nat_tests))
