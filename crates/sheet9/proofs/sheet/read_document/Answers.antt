use Rattle.sheet9.proofs.Words.{arith, IsValidUpTo}
use Rattle.std.proofs.lemmas.Str.{IsUtf8-from_is_utf8}
use Rattle.sheet9.proofs.sheet.read_document.Goals as goal

pub returns-in-Err-clause-err : goal.returns-in-Err-clause-err
returns-in-Err-clause-err c = grind (arith, IsUtf8-from_is_utf8, c.in-Err.ensures.cases.0)

pub returns-in-Err-clause-line : goal.returns-in-Err-clause-line
returns-in-Err-clause-line c =
    let n = c.valid_up_to.result in
    let valid : IsValidUpTo c.args.text.now n = rw c.valid_up_to.ensures c.in-Err.ensures.cases.1 in
    record {
      has = (n, omega (arith, valid.short), c.line_after-line.ensures);
      not_utf8 = λ _. (n, valid, c.line_after-line.ensures);
    }
