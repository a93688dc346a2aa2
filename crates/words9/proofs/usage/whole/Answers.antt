use Rattle.std.proofs.Common.{arith, ap, get_or, sym, ◌∙◌, ◌≡◌}
use Rattle.std.proofs.lemmas.List.Sums.{fold_more}
use Rattle.words9.specs.Words.{top, verbs, with_verb}
use Rattle.words9.specs.declared.task.Verb.TheVariants as verb
use Rattle.words9.proofs.usage.whole.Goals as goal

pub loop-verb-preserved : goal.loop-verb-preserved
loop-verb-preserved c =
    c.in_ok-command-2.ensures ∙ ap (λ app. with_verb c.args.rates app (get_or verbs c.loop-verb.verb-index verb.Check)) c.loop-verb.invariant
    ∙ sym (fold_more (with_verb c.args.rates) top verbs c.loop-verb.verb-index verb.Check c.loop-verb-test.true)

pub returns : goal.returns
returns c =
    let all : c.loop-verb.verb-index ≡ 22 = omega (arith, c.loop-verb-test.false, c.loop-verb.auto.verb-index-end) in
    rw all at c.loop-verb.invariant
