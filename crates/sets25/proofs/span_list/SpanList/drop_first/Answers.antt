-- The span goes, and where it was alone the list.
use Rattle.sets25.proofs.Lemmas.{[], add-one, append-nil, arith, drop-map, drop_all, dropped, filled_remove, filled_set, filled_vector, length-drop, lists_in, lists_in-at}
use Rattle.sets25.proofs.Lemmas.{lists_in-length, lists_in-set, map-append, remove, set, set_split, sym, take-map, ◌∙◌, ◌∷◌}
use Rattle.sets25.proofs.span_list.SpanList.drop_first.Goals as goal

pub invariant_of-self-clause-filled : goal.invariant_of-self-clause-filled
invariant_of-self-clause-filled c = rw c.remove.ensures.items (filled_remove c.args.self.now.rest.items c.args.index c.args.self.now.filled)

pub remove-requires-else-len-eq1 : goal.remove-requires-else-len-eq1
remove-requires-else-len-eq1 c = omega (arith, filled_vector _ c.args.index _ c.args.self.now.filled c.requires c.index_mut.ensures.value)

pub invariant_of-self-else-len-eq1-clause-filled : goal.invariant_of-self-else-len-eq1-clause-filled
invariant_of-self-else-len-eq1-clause-filled c =
    filled_set _ _ c.args.self.now.filled _ _ c.requires c.index_mut.ensures.value (λ some. grind (arith, lists_in-at, length-drop))

pub returns-then-len-eq1 : goal.returns-then-len-eq1
returns-then-len-eq1 c =
    rw c.remove.ensures.items (dropped _ c.args.self.now.rest.items (remove c.args.self.now.rest.items c.args.index) c.args.index _ [] c.requires
    c.index.ensures (omega arith)
    (rw (add-one c.args.index) (simp (map-append, take-map, drop-map))) (sym (drop_all 1 c.index.result.now.items (omega arith))))

pub returns-else-len-eq1 : goal.returns-else-len-eq1
returns-else-len-eq1 c =
    let vs = c.args.self.now.rest.items in
    let i = c.args.index in
    let new = c.remove-else-len-eq1.new.self in
    dropped _ vs (set vs i new) i _ (new.items ∷ []) c.requires c.index_mut.ensures.value
    (filled_vector vs i _ c.args.self.now.filled c.requires c.index_mut.ensures.value)
    (rw add-one (lists_in-set vs i new ∙ set_split (lists_in vs) i new.items (omega (arith, lists_in-length vs))))
    (append-nil new.items ∙ c.remove-else-len-eq1.ensures.items)
