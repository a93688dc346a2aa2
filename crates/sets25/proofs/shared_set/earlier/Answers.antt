-- Where one set is empty, the least member is that of the other, and else the lesser of the two.
use Rattle.sets25.proofs.Lemmas.{arith, least_union, union-empty, union-empty_right}
use Rattle.sets25.proofs.shared_set.earlier.Goals as goal

pub returns-in_default : goal.returns-in_default
returns-in_default c = λ s t in_s in_t. rw (rw c.in_default.is at in_s, union-empty) in_t

pub returns-in_default-second : goal.returns-in_default-second
returns-in_default-second c = λ s t in_s in_t. rw (rw c.in_default-second.is at in_t, union-empty_right) (rw c.in-Some.is at in_s)

pub returns : goal.returns
returns c = λ s t in_s in_t.
    least_union s t c.in-Some.first c.in-Some-second.second c.min.result (grind (arith, c.min.ensures)) (grind (arith, c.min.ensures))
    (grind (arith, c.min.ensures)) (rw c.in-Some.is at in_s) (rw c.in-Some-second.is at in_t)
