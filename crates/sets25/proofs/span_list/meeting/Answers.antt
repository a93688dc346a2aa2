-- The last span and the first touch, or they do not.
use Rattle.sets25.proofs.Lemmas.{arith, canonical_at, length, meets, nat_tests, ◌-◌}
use Rattle.sets25.proofs.span_list.meeting.Goals as goal

pub overflow_add-last : goal.overflow_add-last
overflow_add-last c =
    omega (
      arith,
      (canonical_at 0 c.args.list.now c.requires.canonical (length c.args.list.now - 1) (record { first = 0; last = 0 })
          (omega (arith, c.requires.some.0))).1.1,
    )

pub returns-then-first-last : goal.returns-then-first-last
returns-then-first-last c = λ spans.
    grind (arith, nat_tests, meets c.args.list.now c.args.next.now spans (length c.args.list.now - 1) (record { first = 0; last = 0 }))

pub returns-else-first-last : goal.returns-else-first-last
returns-else-first-last c = λ spans.
    grind (arith, nat_tests, meets c.args.list.now c.args.next.now spans (length c.args.list.now - 1) (record { first = 0; last = 0 }))
