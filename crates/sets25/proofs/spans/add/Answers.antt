-- The frame goes where `with_frame` puts it.
use Rattle.sets25.proofs.Lemmas.{arith, canonical_at, canonical_with, common_steps, get_or_default, sym, uncovered_near, with_frame-alone, with_frame-grown}
use Rattle.sets25.proofs.spans.add.Goals as goal
use Rattle.sets25.proofs.spans.add.Goals.{else-index-len-via-else-index-len, else-index-len-via-then-index-len+else-index-frame}

pub put_joined-requires-clause-in_day : goal.put_joined-requires-clause-in_day
put_joined-requires-clause-in_day c = grind (arith, canonical_at 0 c.args.spans.now.items c.requires.canonical c.place_of-index.result c.index-span.result.now)

pub returns-then-index-frame-clause-ok : goal.returns-then-index-frame-clause-ok
returns-then-index-frame-clause-ok c =
    grind (arith, get_or_default, with_frame-grown c.args.frame _ _ (rw (c.saturating_sub.ensures, c.deref.ensures.value) at c.place_of-index.ensures))

pub returns-in_ok-insert-clause-ok : goal.returns-in_ok-insert-clause-ok
returns-in_ok-insert-clause-ok c =
    let place = rw (c.saturating_sub.ensures, c.deref.ensures.value) at c.place_of-index.ensures in
    rw (c.in_ok-insert.ensures.items, c.of.ensures) (sym (with_frame-alone c.args.frame _ _ place (λ d h. grind (arith, common_steps, get_or_default))))

pub returns-then-index-frame-clause-canonical : goal.returns-then-index-frame-clause-canonical
returns-then-index-frame-clause-canonical c = rw (returns-then-index-frame-clause-ok c)
    (canonical_with 0 c.args.frame _ c.requires.canonical (omega arith) c.requires.in_day)

pub returns-in_ok-insert-clause-canonical : goal.returns-in_ok-insert-clause-canonical
returns-in_ok-insert-clause-canonical c = rw (returns-in_ok-insert-clause-ok c)
    (canonical_with 0 c.args.frame _ c.requires.canonical (omega arith) c.requires.in_day)

pub returns-in_err-insert-clause-apart : goal.returns-in_err-insert-clause-apart
returns-in_err-insert-clause-apart c =
    let place = rw (c.saturating_sub.ensures, c.deref.ensures.value) at c.place_of-index.ensures in
    grind (arith, uncovered_near c.args.frame _ _ place (λ d h. grind (arith, common_steps, get_or_default)) c.requires.canonical)
