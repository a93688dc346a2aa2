use Rattle.block9.proofs.Words.{Controller, ap, arith, Bool, ByteGap, if◌then◌else◌, Some, ◌∙◌, byte_gap, false, is_soon, last_time, nat_le, nat_tests, None, place_at, rules, sym, true, wire_fault, ◌+◌, ◌≡◌}
use Rattle.block9.proofs.SpellingLemmas.{last_at}
use Rattle.block9.proofs.StandsLemmas.{begun_some, gap_told, inside_not_late, its_turn}
use Rattle.block9.proofs.rules.turn.Goals as goal
use Rattle.block9.proofs.rules.turn.Goals.{then-ne+in_default, else-ne}

pub overflow_sub-line_byte : goal.overflow_sub-line_byte
overflow_sub-line_byte c =
    let some = begun_some c.args.tail.now c.args.block c.requires.stands c.if-block-eq0.false in
    rw (last_at c.args.tail.now _ some) c.requires.later

pub returns-then-line_byte-tail-gt-BYTE_GAP_US-clause-err : goal.returns-then-line_byte-tail-gt-BYTE_GAP_US-clause-err
returns-then-line_byte-tail-gt-BYTE_GAP_US-clause-err c =
    let turn : wire_fault (place_at c.args.block) c.args.line_byte.wire (is_soon c.args.tail.now c.args.line_byte) ≡ None = elim c.if-ne.branch [
      | then-ne+in_default w ↦ search rules
      | else-ne w ↦ its_turn c.args.tail.now c.args.line_byte c.args.block (search rules)
    ] in
    let some = begun_some c.args.tail.now c.args.block c.requires.stands c.if-block-eq0.false in
    let last = last_at c.args.tail.now (record { time_us = 0; wire = Controller; byte = 0 }) some in
    let gap : nat_le c.args.line_byte.time_us (last_time c.args.tail.now + byte_gap) ≡ false =
    let later = c.requires.later in let long = rw last at c.if-line_byte-tail-gt-BYTE_GAP_US.true in grind (arith, nat_tests) in
    gap_told c.args.limit c.args.tail.now c.args.line_byte c.args.block c.requires.stands turn c.if-block-eq0.false ∙ ap (λ (x : Bool). if x then None else Some ByteGap) gap

pub returns-in-Some-longer-clause-ok : goal.returns-in-Some-longer-clause-ok
returns-in-Some-longer-clause-ok c =
    let turn : wire_fault (place_at c.args.block) c.args.line_byte.wire (is_soon c.args.tail.now c.args.line_byte) ≡ None = elim c.if-ne.branch [
      | then-ne+in_default w ↦ search rules
      | else-ne w ↦ its_turn c.args.tail.now c.args.line_byte c.args.block (search rules)
    ] in
    let some = begun_some c.args.tail.now c.args.block c.requires.stands c.if-block-eq0.false in
    let last = last_at c.args.tail.now (record { time_us = 0; wire = Controller; byte = 0 }) some in
    let gap : nat_le c.args.line_byte.time_us (last_time c.args.tail.now + byte_gap) ≡ true =
    let later = c.requires.later in let short = rw last at c.if-line_byte-tail-gt-BYTE_GAP_US.false in grind (arith, nat_tests) in (
      gap_told c.args.limit c.args.tail.now c.args.line_byte c.args.block c.requires.stands turn c.if-block-eq0.false ∙ ap (λ (x : Bool). if x then None else Some ByteGap) gap,
      (sym c.in-Some-longer.is ∙ c.longer.ensures, sym (inside_not_late c.args.tail.now c.args.line_byte c.args.block c.requires.stands c.if-block-eq0.false)),
    )

pub returns-in-None-clause-ok : goal.returns-in-None-clause-ok
returns-in-None-clause-ok c =
    let turn : wire_fault (place_at c.args.block) c.args.line_byte.wire (is_soon c.args.tail.now c.args.line_byte) ≡ None = elim c.if-ne.branch [
      | then-ne+in_default w ↦ search rules
      | else-ne w ↦ its_turn c.args.tail.now c.args.line_byte c.args.block (search rules)
    ] in
    let some = begun_some c.args.tail.now c.args.block c.requires.stands c.if-block-eq0.false in
    let last = last_at c.args.tail.now (record { time_us = 0; wire = Controller; byte = 0 }) some in
    let gap : nat_le c.args.line_byte.time_us (last_time c.args.tail.now + byte_gap) ≡ true =
    let later = c.requires.later in let short = rw last at c.if-line_byte-tail-gt-BYTE_GAP_US.false in grind (arith, nat_tests) in (
      gap_told c.args.limit c.args.tail.now c.args.line_byte c.args.block c.requires.stands turn c.if-block-eq0.false ∙ ap (λ (x : Bool). if x then None else Some ByteGap) gap,
      sym c.in-None.is ∙ c.longer.ensures,
    )
