-- One digit more: it fits, and the rest of the digits still decide.
use Rattle.capture9.proofs.Words.{arith, drop_more, get_or, is_ascii_digit, nat_tests, true, ◌∙◌, ◌≡◌}
use Rattle.capture9.proofs.FieldLemmas.{room-low, room-step, value-step}
use Rattle.capture9.proofs.fields.digits_after.Goals as goal

pub overflow_mul-time : goal.overflow_mul-time
overflow_mul-time c =
    omega (arith, room-low c.loop-byte.time _ (rw (drop_more c.args.digits.now c.loop-byte.byte-index 0 c.loop-byte-test.true) at c.loop-byte.invariant.room))

pub overflow_add-time : goal.overflow_add-time
overflow_add-time c =
    grind (
      arith,
      nat_tests,
      room-low c.loop-byte.time _ (rw (drop_more c.args.digits.now c.loop-byte.byte-index 0 c.loop-byte-test.true) at
          c.loop-byte.invariant.room),
    )

pub loop-byte-preserved : goal.loop-byte-preserved
loop-byte-preserved c =
    let more = drop_more c.args.digits.now c.loop-byte.byte-index 0 c.loop-byte-test.true in
    let byte = get_or c.args.digits.now c.loop-byte.byte-index 0 in
    let digit : is_ascii_digit byte ≡ true = cc in
    rw c.from.ensures (record {
      digits = grind arith;
      value = rw more at c.loop-byte.invariant.value ∙ value-step _ byte _ digit;
      room = room-step _ _ byte digit (rw more at c.loop-byte.invariant.room);
    })
