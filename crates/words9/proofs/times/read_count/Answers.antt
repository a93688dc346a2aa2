use Rattle.std.proofs.Common.{◌∙◌, lit<}
use Rattle.std.proofs.lemmas.Str.Pattern.{starts_char}
use Rattle.words9.proofs.ValueLemmas.{parsed, plus_names_none}
use Rattle.words9.proofs.times.read_count.Goals as goal

pub returns-then-starts_with : goal.returns-then-starts_with
returns-then-starts_with c =
    let plus = starts_char 43 c.args.word.now c.starts_with.result c.starts_with.ensures.cases (lit< tt) (lit< tt) in
    plus_names_none c.args.word.now (plus.0 c.if-starts_with.true)

pub returns : goal.returns
returns c =
    let plus = starts_char 43 c.args.word.now c.starts_with.result c.starts_with.ensures.cases (lit< tt) (lit< tt) in
    c.ok.ensures.value ∙ parsed c.args.word.now c.parse.result c.parse.ensures.value.0 (λ begins. let is = plus.1 begins in cc)
