use Rattle.std.proofs.Common.{arith, length, map, ◌<◌}
use Rattle.std.proofs.lemmas.Bool.Decides.{nat_tests}
use Rattle.std.proofs.lemmas.List.{length-map}
use Rattle.std.specs.Fn.{FnReturnsAt}
use Rattle.program9.proofs.SheetLemmas.{as_many_texts, ends_read}
use Rattle.program9.proofs.sheet.find_deck.Goals as goal

pub read_sheets-requires : goal.read_sheets-requires
read_sheets-requires g c =
    let opens = FnReturnsAt g.G.Fn c.args.opener.now in
    let texts = c.in_ok-texts.texts.items in
    let some : 0 < length c.args.files.now = grind (arith, nat_tests, c.is_empty.ensures, c.if-is_empty.false) in
    let as_many = as_many_texts opens g.S.Read.remaining c.args.files.now (map (λ t. t.items) texts) c.in_ok-texts.ensures.texts in
    rw c.as_slice.ensures.value (omega (arith, some, as_many, length-map texts (λ t. t.items)))

pub returns-in-Err-clause-ends : goal.returns-in-Err-clause-ends
returns-in-Err-clause-ends g c =
    let opens = FnReturnsAt g.G.Fn c.args.opener.now in
    let some : 0 < length c.args.files.now = grind (arith, nat_tests, c.is_empty.ensures, c.if-is_empty.false) in
    ends_read opens g.S.Read.remaining c.args.files.now c.told_of.result some (record {
      texts = map (λ t. t.items) c.in_ok-texts.texts.items;
      read = c.in_ok-texts.ensures.texts;
      error = c.in-Err.error;
      reports = rw c.as_slice.ensures.value at c.in-Err.ensures.refused;
      told = c.told_of.ensures;
    })
