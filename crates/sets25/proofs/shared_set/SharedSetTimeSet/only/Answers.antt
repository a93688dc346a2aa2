-- Where one part is empty, the only member is that of the other, and else both have it alone.
use Rattle.sets25.proofs.Lemmas.{not_empty, only_both, union-empty, union-empty_right}
use Rattle.sets25.proofs.shared_set.SharedSetTimeSet.only.Goals as goal

pub returns-in_default : goal.returns-in_default
returns-in_default c = λ t. rw (c.in_default.is, union-empty) (c.only.ensures t)

pub returns-then-is_empty : goal.returns-then-is_empty
returns-then-is_empty c = λ t.
    let none = rw c.deref.ensures at (c.is_empty.ensures.0 c.if-is_empty.true) in
    rw (c.in-Some.is, none, union-empty) (c.only-then-is_empty.ensures t)

pub returns-then-is_empty-2 : goal.returns-then-is_empty-2
returns-then-is_empty-2 c = λ t.
    let none = c.is_empty-2.ensures.0 c.if-is_empty-2.true in
    rw (c.in-Some.is, none, union-empty_right) (rw c.deref-then-is_empty-2.ensures at (c.only-then-is_empty-2.ensures t))

pub returns : goal.returns
returns c = λ t.
    rw c.in-Some.is (only_both _ _ c.only-2.result c.only-3.result c.common.result
    (not_empty _ _ (rw c.deref.ensures at c.is_empty.ensures) c.if-is_empty.false) (not_empty _ _ c.is_empty-2.ensures c.if-is_empty-2.false) t
    (rw c.deref-2.ensures at (c.only-2.ensures t)) (c.only-3.ensures t) (c.common.ensures t))
