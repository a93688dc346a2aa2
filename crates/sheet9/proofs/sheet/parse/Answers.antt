use Rattle.sheet9.proofs.Words.{arith, false, length, rules, true, ◌≡◌, ◌≤◌}
use Rattle.std.proofs.lemmas.Str.{is_utf8-from_IsUtf8}
use Rattle.sheet9.proofs.sheet.parse.Goals as goal

pub returns-in-Ok-clause-ok : goal.returns-in-Ok-clause-ok
returns-in-Ok-clause-ok c = rw (is_utf8-from_IsUtf8 c.args.text.now c.utf8.text) c.in-Ok.ensures.ok

pub returns-in-Some-clause-err : goal.returns-in-Some-clause-err
returns-in-Some-clause-err c =
    let refused = c.in-Err.ensures.refused (λ memory. let clash : true ≡ false = c.in-Some.ensures.none.1 memory in cc) in
    rw (is_utf8-from_IsUtf8 c.args.text.now c.utf8.text, refused)

pub returns-in-Some-clause-line : goal.returns-in-Some-clause-line
returns-in-Some-clause-line c =
    let within : c.in-Some.span.start ≤ length c.args.text.now = omega (arith, c.in-Some.ensures.range, c.in-Err.ensures.span) in
    record { has = (c.in-Some.span.start, within, search rules); not_utf8 = λ not_utf8. absurd (not_utf8 c.utf8.text) }
