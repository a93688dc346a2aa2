use Rattle.sheet9.proofs.Words.{[], arith, refl, suc, sym, ◌+◌, ◌++◌, ◌∷◌, ◌≡◌}
use Rattle.std.proofs.Common.{map, subst, take}
use Rattle.sheet9.specs.Sheets.{AreRead}
use Rattle.sheet9.specs.Sheet.{sheet_of}
use Rattle.sheet9.specs.Working.{AreSaid, IsSaid}
use Rattle.sheet9.proofs.SheetsLemmas.{meant, read_more, read_there, said_more}
use Rattle.sheet9.proofs.sheets.read_each.Goals as goal

pub returns-in-Some-clause-refused : goal.returns-in-Some-clause-refused
returns-in-Some-clause-refused c =
    let before = c.loop-text.invariant.1 in
    let sheet = meant (sheet_of c.text-item.result.items) (λ s. IsSaid s c.in-Ok.said) (rw c.as_slice.ensures.value at c.in-Ok.ensures.said) in
    rw (c.len-at-in-Some.ensures, c.loop-text.invariant.0) (record {
      sheets = before.0;
      read = before.1;
      text = c.text-item.result.items;
      is_at = read_there c.args.texts.now c.loop-text.text-index c.text-item.result c.loop-text-test.true c.text-item.is;
      sheet = sheet.0;
      is_sheet = sheet.1;
      clashes = c.in-Some.ensures.some before.0 sheet.0 (subst (AreSaid before.0) (sym c.as_slice-in-loop-text.ensures.value) before.2) sheet.2;
    })

pub loop-text-preserved : goal.loop-text-preserved
loop-text-preserved c =
    let before = c.loop-text.invariant.1 in
    let sheet = meant (sheet_of c.text-item.result.items) (λ s. IsSaid s c.in-Ok.said) (rw c.as_slice.ensures.value at c.in-Ok.ensures.said) in
    let i = c.loop-text.text-index in
    let texts = map (λ t. t.items) c.args.texts.now in
    let there = read_there c.args.texts.now i c.text-item.result c.loop-text-test.true c.text-item.is in
    let next : suc i ≡ i + 1 = omega arith in (
      omega (arith, c.loop-text.invariant.0, c.in-Ok-push.ensures.len),
      (
        before.0 ++ sheet.0 ∷ [],
        subst (λ n. AreRead (take n texts) (before.0 ++ sheet.0 ∷ [])) next
            (read_more texts i before.0 c.text-item.result.items sheet.0 there before.1 sheet.1 (c.in_default.ensures.none before.0 sheet.0 (subst (AreSaid before.0) (sym c.as_slice-in-loop-text.ensures.value) before.2) sheet.2 refl)),
        subst (AreSaid (before.0 ++ sheet.0 ∷ [])) (sym c.in-Ok-push.ensures.items) (said_more before.0 c.loop-text.all.items sheet.0 c.in-Ok.said before.2 sheet.2),
      ),
    )
