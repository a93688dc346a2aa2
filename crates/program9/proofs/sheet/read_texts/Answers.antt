use Rattle.std.proofs.Common.{ap, inr, map, subst, sym, take, ◌+◌, ◌∙◌}
use Rattle.std.specs.Fn.{FnReturnsAt}
use Rattle.program9.specs.Sheet.{AreTexts}
use Rattle.program9.proofs.SheetLemmas.{mapped_one, named_there, texts_more}
use Rattle.program9.proofs.sheet.read_texts.Goals as goal

pub returns-in-Err-clause-ends : goal.returns-in-Err-clause-ends
returns-in-Err-clause-ends g c = record {
  place = c.loop-file.file-index;
  texts = map (λ t. t.items) c.loop-file.texts.items;
  read = c.loop-file.invariant;
  file = c.file-item.result;
  is_at = named_there c.args.files.now c.loop-file.file-index c.file-item.result c.loop-file-test.true c.file-item.is;
  ends = c.in-Err.ensures.ends;
}

pub returns-in-Err-push-clause-ends : goal.returns-in-Err-push-clause-ends
returns-in-Err-push-clause-ends g c = record {
  place = c.loop-file.file-index;
  texts = map (λ t. t.items) c.loop-file.texts.items;
  read = c.loop-file.invariant;
  file = c.file-item.result;
  is_at = named_there c.args.files.now c.loop-file.file-index c.file-item.result c.loop-file-test.true c.file-item.is;
  ends = inr c.new.ensures;
}

pub loop-file-preserved : goal.loop-file-preserved
loop-file-preserved g c =
    let opens = FnReturnsAt g.G.Fn c.args.opener.now in
    let coming = g.S.Read.remaining in
    let i = c.loop-file.file-index in
    let files = c.args.files.now in
    subst (AreTexts opens coming (take (i + 1) files)) (sym (ap (map (λ t. t.items)) c.in-Ok-push.ensures.items ∙ mapped_one c.loop-file.texts.items c.in-Ok.text))
    (texts_more opens coming files i c.file-item.result (map (λ t. t.items) c.loop-file.texts.items) c.in-Ok.text.items c.loop-file-test.true c.file-item.is c.loop-file.invariant c.in-Ok.ensures.text)
