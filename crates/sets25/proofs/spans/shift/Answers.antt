-- A shift within the day, and where a frame leaves it that frame is added where it comes in.
use Rattle.sets25.proofs.Lemmas.{arith, canonical_shift, covered_shift, covered_with, far_edge_of, nat_tests, neighbour_covered, of_day-added, on_err_weaker, on_ok_weaker}
use Rattle.sets25.proofs.spans.shift.Goals as goal
use Rattle.sets25.proofs.spans.shift.Goals.{else-not-contains-2, then-not-contains-2+in_ok-reserve}

pub returns-then-not-contains-clause-canonical : goal.returns-then-not-contains-clause-canonical
returns-then-not-contains-clause-canonical c = rw c.shift_within.ensures.shifted
    (canonical_shift c.args.rate c.args.direction 0 0 c.args.spans.now.items (omega arith) c.requires.canonical c.requires.of_day)

pub returns-then-not-contains-clause-ok : goal.returns-then-not-contains-clause-ok
returns-then-not-contains-clause-ok c = λ f h. grind (arith, nat_tests, covered_shift c.args.rate c.args.direction f 0 c.args.spans.now.items h c.requires.canonical c.requires.of_day)

pub add-requires-clause-canonical : goal.add-requires-clause-canonical
add-requires-clause-canonical c = grind (arith, canonical_shift c.args.rate c.args.direction 0 0 c.args.spans.now.items (omega arith) c.requires.canonical c.requires.of_day)

pub returns-clause-ok : goal.returns-clause-ok
returns-clause-ok c =
    let d = c.args.direction in
    on_ok_weaker c.add.result (λ told f h.
    grind (
      arith,
      nat_tests,
      covered_with f 0 (far_edge_of c.args.rate d) _
          (canonical_shift c.args.rate d 0 0 c.args.spans.now.items (omega arith) c.requires.canonical c.requires.of_day),
      covered_shift c.args.rate d f 0 _ h c.requires.canonical c.requires.of_day,
    )) c.add.ensures.ok

pub returns-clause-err : goal.returns-clause-err
returns-clause-err c =
    elim c.if-not-contains-2.branch [
      | then-not-contains-2+in_ok-reserve w ↦ on_err_weaker c.add.result (λ full. absurd (grind arith)) c.add.ensures.full
      | else-not-contains-2 w ↦
          on_err_weaker c.add.result (λ none.
          absurd (neighbour_covered c.args.rate _ _ c.requires.canonical c.requires.of_day (grind arith) (rw (c.far_edge-far_edge.ensures.value, c.shift_within-2.ensures.shifted, w.spans-is) at none)))
          c.add.ensures.apart
    ]

pub returns-clause-of_day : goal.returns-clause-of_day
returns-clause-of_day c =
    of_day-added c.args.rate c.add.result c.far_edge-far_edge.result _ _ (omega arith) c.shift_within-2.ensures.of_day c.add.ensures.ok c.add.ensures.err
