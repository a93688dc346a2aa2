-- A widening within the day, and where a frame leaves it that frame is added where it comes in.
use Rattle.sets25.proofs.Lemmas.{arith, canonical_widen, covered_widened, covered_with, far_edge_of, nat_tests, of_day-added, on_ok_weaker}
use Rattle.sets25.proofs.spans.widen.Goals as goal
use Rattle.sets25.proofs.spans.widen.Goals.{then-not-contains-via-else-not-contains+then-contains, then-not-contains-via-then-not-contains}

pub returns-then-not-contains-clause-canonical : goal.returns-then-not-contains-clause-canonical
returns-then-not-contains-clause-canonical c = rw c.widen_within.ensures.widened
    (canonical_widen c.args.rate c.args.direction 0 0 c.args.spans.now.items (omega arith) c.requires.canonical c.requires.of_day)

pub returns-then-not-contains-clause-ok : goal.returns-then-not-contains-clause-ok
returns-then-not-contains-clause-ok c = λ f h. grind (arith, nat_tests, covered_widened c.args.rate c.args.direction f 0 c.args.spans.now.items h c.requires.canonical c.requires.of_day)

pub add-requires-clause-canonical : goal.add-requires-clause-canonical
add-requires-clause-canonical c = grind (arith, canonical_widen c.args.rate c.args.direction 0 0 c.args.spans.now.items (omega arith) c.requires.canonical c.requires.of_day)

pub returns-clause-ok : goal.returns-clause-ok
returns-clause-ok c =
    let d = c.args.direction in
    on_ok_weaker c.add.result (λ told f h.
    grind (
      arith,
      nat_tests,
      covered_with f 0 (far_edge_of c.args.rate d) _
          (canonical_widen c.args.rate d 0 0 c.args.spans.now.items (omega arith) c.requires.canonical c.requires.of_day),
      covered_widened c.args.rate d f 0 _ h c.requires.canonical c.requires.of_day,
    )) c.add.ensures.ok

pub returns-clause-of_day : goal.returns-clause-of_day
returns-clause-of_day c =
    of_day-added c.args.rate c.add.result c.far_edge-2.result _ _ (omega arith) c.widen_within-2.ensures.of_day c.add.ensures.ok c.add.ensures.err
