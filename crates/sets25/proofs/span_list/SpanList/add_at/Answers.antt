-- The list at the place has the frame.
use Rattle.sets25.proofs.Lemmas.{[], arith, filled_set, lists_of, lists_set, on_err_weaker, on_ok_weaker, set-get_or, some_with_frame, with_frame, ◌∙◌}
use Rattle.sets25.proofs.span_list.SpanList.add_at.Goals as goal

pub invariant_of-self-clause-filled : goal.invariant_of-self-clause-filled
invariant_of-self-clause-filled c =
    filled_set _ _ c.args.self.now.filled _ _ (omega arith) c.index_mut.ensures.value (λ some. grind (arith, some_with_frame))

pub invariant_of-self-in-None-clause-begun : goal.invariant_of-self-in-None-clause-begun
invariant_of-self-in-None-clause-begun c = λ h. grind (arith, some_with_frame)

pub returns-in-Some-clause-ok : goal.returns-in-Some-clause-ok
returns-in-Some-clause-ok c =
    on_ok_weaker c.add.result (lists_set _ _ c.args.place c.in-Some.index _ _ (with_frame c.args.frame) (omega arith) (omega arith) c.index_mut.ensures.value)
    c.add.ensures.ok

pub returns-in-Some-clause-err : goal.returns-in-Some-clause-err
returns-in-Some-clause-err c =
    on_err_weaker c.add.result (λ told.
    lists_set _ _ c.args.place c.in-Some.index _ _ (λ xs. xs) (omega arith) (omega arith) c.index_mut.ensures.value told
    ∙ set-get_or (lists_of c.args.self.now) c.args.place []) c.add.ensures.err
