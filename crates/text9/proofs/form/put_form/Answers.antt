use Rattle.std.proofs.Common.{arith, ℕ, List, ◌+◌, drop, get_or, append_assoc, map, true}
use Rattle.std.proofs.lemmas.List.{drop_more, drop-map}
use Rattle.text9.specs.Form.{filled}
use Rattle.text9.proofs.Filled.{closes, opens, stands, takes_number, takes_text}
use Rattle.text9.proofs.Runs.{no_run, one_more}
use Rattle.text9.proofs.form.put_form.Goals as goal
use Rattle.text9.proofs.form.put_form.Goals.{in_default, in-116+in_ok-put_next_text-in-116, in_default-2+in_ok-put_next_number-in_default-2, in-123+in_ok-put-in-123}

pub loop-at-preserved : goal.loop-at-preserved
loop-at-preserved c =
    let form = c.args.form.now in
    let at = c.loop-at.at in
    let b = get_or form at 0 in
    let numbers = c.loop-at.numbers.now in
    let texts : List (List ℕ) = map (λ t. t.now) c.loop-at.texts.now in
    let behind = drop (at + 1) form in
    let rest = filled c.match-byte.is_inside behind c.match-byte.numbers.now (map (λ t. t.now) c.match-byte.texts.now) in
    let next = drop_more form at 0 (omega arith) in
    let none = no_run form rest (at + 1) in
    let old = no_run form (filled true (drop at form) numbers texts) at in
    elim c.match-byte.branch [
      | in_default w ↦
          (grind (arith, append_assoc, next, stands b behind numbers texts, one_more form rest c.loop-at.from at (omega arith) (omega arith)), (omega arith, grind arith))
      | in-116+in_ok-put_next_text-in-116 w ↦ (grind (arith, append_assoc, next, none, old, takes_text b behind numbers texts, drop-map), (omega arith, grind arith))
      | in_default-2+in_ok-put_next_number-in_default-2 w ↦ (grind (arith, append_assoc, next, none, old, takes_number b behind numbers texts), (omega arith, grind arith))
      | in-123+in_ok-put-in-123 w ↦
          (grind (arith, append_assoc, next, none, opens c.loop-at.is_inside b behind numbers texts, closes c.loop-at.is_inside b behind numbers texts), (omega arith, grind arith))
    ]
