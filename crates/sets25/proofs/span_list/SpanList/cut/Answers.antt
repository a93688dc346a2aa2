-- The halves are the list.
use Rattle.sets25.proofs.Lemmas.{[], ap, arith, begun_still, cut_suc, drop, end_to_end, filled_inserted, get_or, get_or-insert_below, inserted, is_ok, length, length-drop}
use Rattle.sets25.proofs.Lemmas.{lists_in-length, lists_of, refl, set, suc, take, take_rest, ◌/◌, ◌∙◌}
use Rattle.sets25.proofs.span_list.SpanList.cut.Goals as goal

pub invariant_of-self : goal.invariant_of-self
invariant_of-self c =
    let l = c.args.self.now in
    let xs = c.list-list.result.now in
    let upper = c.in_ok-upper.ensures.items ∙ take_rest xs (length xs / 2) in
    record {
      begun = λ h. begun_still _ _ c.args.place l.begun c.requires (omega (arith, ap length c.list-list.ensures));
      filled = filled_inserted (is_ok c.insert.result) _ _ c.args.place _ c.insert.ensures.items l.filled
          (rw upper (omega (arith, length-drop (length xs / 2) xs)));
    }

pub shorten-requires-clause-some : goal.shorten-requires-clause-some
shorten-requires-clause-some c =
    let grown = inserted c.args.self.now.first.items _ _ c.args.place _ c.in_ok-insert.ensures.items in
    grind (arith, lists_in-length, get_or-insert_below (lists_of c.args.self.now) (suc c.args.place) c.in_ok-upper.upper.items [] c.args.place)

pub returns : goal.returns
returns c =
    let p = c.args.place in
    let half = length c.list-list.result.now / 2 in
    let upper = c.in_ok-upper.ensures.items ∙ take_rest c.list-list.result.now half ∙ ap (drop half) c.list-list.ensures in
    ap end_to_end c.shorten.ensures ∙ ap (λ ls. end_to_end (set ls p (take half (get_or ls p []))))
    (inserted c.args.self.now.first.items _ _ p _ c.in_ok-insert.ensures.items)
    ∙ cut_suc (lists_of c.args.self.now) p half _ _ (omega (arith, lists_in-length)) upper refl
