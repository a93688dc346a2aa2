-- Both parts together are empty where each is.
use Rattle.sets25.proofs.Lemmas.{empty_parts, false≢true, sym, union-empty, ◌∙◌}
use Rattle.sets25.proofs.shared_set.SharedSetTimeSet.is_empty.Goals as goal

pub returns-then-is_empty : goal.returns-then-is_empty
returns-then-is_empty c =
    let none = rw c.deref.ensures at (c.is_empty.ensures.0 c.if-is_empty.true) in
    rw (c.in-Some.is, none, union-empty) c.is_empty-then-is_empty.ensures

pub returns-else-is_empty : goal.returns-else-is_empty
returns-else-is_empty c =
    rw c.in-Some.is (
      λ is. absurd (false≢true (sym c.if-is_empty.false ∙ is)),
      λ none. (rw c.deref.ensures at c.is_empty.ensures).1 (empty_parts _ _ none).0,
    )

pub returns-in-None : goal.returns-in-None
returns-in-None c = rw (c.in-None.is, union-empty) c.is_empty-in-None.ensures
