use Rattle.sheet9.proofs.Words.{false, nat_cmp, sym, true, ◌∙◌, ◌≡◌}
use Rattle.sheet9.specs.Sheet.{is_beside}
use Rattle.std.specs.BTreeMap.{get, is_at}
use Rattle.sheet9.proofs.PartLemmas.{all_parted, here_too, moves, none_left}
use Rattle.sheet9.proofs.effects.part.Goals as goal

pub rest-preserved-in_ok-insert : goal.rest-preserved-in_ok-insert
rest-preserved-in_ok-insert c = λ q.
    let k = c.in-Some.head in
    let v = c.in-Some.forgotten in
    let tested = sym c.is_beside.ensures ∙ c.if-is_beside.true in
    rw (c.in-Some.ensures.updates.0 q, c.in_ok-insert.ensures.updates.0 q)
    (moves (is_at (nat_cmp k) q) (is_beside (get nat_cmp c.args.goals.now) q) true v _ _ _ _
    (here_too (is_beside (get nat_cmp c.args.goals.now)) true c.rest.rest k q v tested c.in-Some.ensures.value) (c.rest.invariant q))

pub rest-preserved : goal.rest-preserved
rest-preserved c = λ q.
    let k = c.in-Some.head in
    let v = c.in-Some.forgotten in
    let tested = sym c.is_beside.ensures ∙ c.if-is_beside.false in
    rw (c.in-Some.ensures.updates.0 q, c.in_ok-insert-2.ensures.updates.0 q)
    (moves (is_at (nat_cmp k) q) (is_beside (get nat_cmp c.args.goals.now) q) false v _ _ _ _
    (here_too (is_beside (get nat_cmp c.args.goals.now)) false c.rest.rest k q v tested c.in-Some.ensures.value) (c.rest.invariant q))

pub returns-clause-alone : goal.returns-clause-alone
returns-clause-alone c = λ q. (all_parted (is_beside (get nat_cmp c.args.goals.now) q) _ _ _ _
    (none_left c.rest.rest q (λ more. let clash : false ≡ true = c.in_default.ensures.variant.1 more in cc)) (c.rest.invariant q)).0

pub returns-clause-beside : goal.returns-clause-beside
returns-clause-beside c = λ q. (all_parted (is_beside (get nat_cmp c.args.goals.now) q) _ _ _ _
    (none_left c.rest.rest q (λ more. let clash : false ≡ true = c.in_default.ensures.variant.1 more in cc)) (c.rest.invariant q)).1
