-- The frame goes into the list at its place, which then meets the next.
use Rattle.sets25.proofs.Lemmas.{added_is, ap, arith, canonical_changed, canonical_list, canonical_with, lists_of, some_changed, spans_of, with_frame, ◌∙◌}
use Rattle.sets25.proofs.span_list.SpanList.add.Goals as goal

pub add_at-requires-clause-canonical : goal.add_at-requires-clause-canonical
add_at-requires-clause-canonical c = canonical_list (lists_of c.cut.new.self) c.place_of-place.result c.place_of-place.ensures.fits
    (rw c.cut.ensures c.requires.canonical)

pub join-requires-clause-canonical : goal.join-requires-clause-canonical
join-requires-clause-canonical c =
    canonical_changed _ _ (lists_of c.add_at.new.self) _ (rw c.cut.ensures c.requires.canonical) c.place_of-place.ensures c.in_ok-add_at.ensures.ok
    c.requires.in_day

pub join-requires-clause-some : goal.join-requires-clause-some
join-requires-clause-some c =
    some_changed _ _ (lists_of c.add_at.new.self) _ (rw c.cut.ensures c.requires.canonical) c.place_of-place.ensures c.in_ok-add_at.ensures.ok

pub returns-clause-ok : goal.returns-clause-ok
returns-clause-ok c =
    added_is _ _ (lists_of c.add_at.new.self) _ (rw c.cut.ensures c.requires.canonical) c.place_of-place.ensures c.in_ok-add_at.ensures.ok _ c.join.ensures
    ∙ ap (with_frame c.args.frame) c.cut.ensures

pub returns-clause-canonical : goal.returns-clause-canonical
returns-clause-canonical c = rw (returns-clause-ok c) (canonical_with 0 c.args.frame (spans_of c.args.self.now) c.requires.canonical (omega arith)
    c.requires.in_day)
