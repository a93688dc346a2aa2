-- The first eight digits and the rest.
use Rattle.capture9.proofs.Words.{arith, length, length-take-le, refl, sym, take-append-drop, ◌++◌, ◌∙◌, ◌≡◌}
use Rattle.capture9.proofs.FieldLemmas.{eight-low, room-after, time_in-none, time_in-some}
use Rattle.capture9.proofs.fields.read_time.Goals as goal

pub returns-in_err-first-in-Some : goal.returns-in_err-first-in-Some
returns-in_err-first-in-Some c =
    let whole : c.args.field.now ≡ c.in-Some.front.now ++ c.in-Some.rest.now =
    sym (take-append-drop 8 c.args.field.now) ∙ rw (← c.in-Some.ensures.cases.0, ← c.in-Some.ensures.cases.1) refl in
    grind (arith, time_in-none c.args.field.now c.in-Some.front.now c.in-Some.rest.now whole)

pub digits_after-requires : goal.digits_after-requires
digits_after-requires c =
    let size : length c.in-Some.front.now ≡ 8 = grind (arith, length-take-le 8 c.args.field.now) in
    let low = eight-low c.in-Some.front.now _ (sym c.eight_digits.ensures ∙ c.in_ok-first-in-Some.was) size in
    room-after c.in_ok-first-in-Some.first (length c.in-Some.rest.now) low (omega (arith, c.in-Some.ensures.cases.2))

pub returns-in_ok-first-in-Some : goal.returns-in_ok-first-in-Some
returns-in_ok-first-in-Some c =
    let whole : c.args.field.now ≡ c.in-Some.front.now ++ c.in-Some.rest.now =
    sym (take-append-drop 8 c.args.field.now) ∙ rw (← c.in-Some.ensures.cases.0, ← c.in-Some.ensures.cases.1) refl in
    grind (arith, time_in-some c.args.field.now c.in-Some.front.now c.in-Some.rest.now whole)
