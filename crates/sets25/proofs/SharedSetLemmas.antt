-- What a `SharedSet` answers, from the base and from its own.
use Rattle.sets25.proofs.Words.{ap, arith, Bool, false, false≢true, IsLeast, just, nat_cmp, nat_cmp_total, nat_tests, None, Option, Some, sym, Times, true, true_from_ne_false, ℕ}
use Rattle.sets25.proofs.Words.{◌↔◌, ◌∙◌, ◌≡◌, ◌≤◌}
use Rattle.std.specs.FinSet as set
use Rattle.tc25.specs.declared.rate.Rate.{Rate}
use Rattle.sets25.specs.Times.{with_time}
use Rattle.sets25.specs.SharedSet.{members_of, shared_members}
use Rattle.sets25.specs.SpanSet as spans
use Rattle.sets25.specs.declared.shared_set.SharedSet.{SharedSet}
use Rattle.sets25.specs.declared.span_set.SpanSet.{SpanSet}
use Rattle.sets25.proofs.TimesLemmas.{contains-insert_nat, contains-just, same_times}

-- ---- two sets together

pub union-empty : (s : Times) → set.union set.empty s ≡ s
union-empty s = same_times _ _ (λ f. grind (arith, set.contains-union nat_cmp_total, set.contains-empty nat_cmp))

pub union-empty_right : (s : Times) → set.union s set.empty ≡ s
union-empty_right s = same_times _ _ (λ f. grind (arith, set.contains-union nat_cmp_total, set.contains-empty nat_cmp))

-- what is done to a set with no base is done to all members
pub changed_alone : (change : Rate → Times → Times) (old new : SharedSet) (own : SpanSet) → members_of new ≡ members_of old → new.own.rate ≡ old.own.rate
    → new.base ≡ None → spans.members_of own ≡ change new.own.rate (spans.members_of new.own)
    → set.union (shared_members new.base) (spans.members_of own) ≡ change old.own.rate (members_of old)
changed_alone change old new own same rate alone told = rw (alone, union-empty) (told ∙ ap (change new.own.rate) (rw (alone, union-empty) at same)
    ∙ ap (λ r. change r (members_of old)) rate)

-- a time that one of them gets is one that both together get
pub with_time-union : (rate : Rate) (s t : Times) (k : ℕ) → set.union s (with_time rate t k) ≡ with_time rate (set.union s t) k
with_time-union rate s t k = same_times _ _ (λ f. grind (arith, nat_tests, set.contains-union nat_cmp_total, contains-insert_nat))

-- a member that is added changes nothing
pub with_time-member : (rate : Rate) (s t : Times) (k : ℕ) → set.contains s k ≡ true → set.union s t ≡ with_time rate (set.union s t) k
with_time-member rate s t k there = same_times _ _ (λ f. grind (arith, nat_tests, set.contains-union nat_cmp_total, contains-insert_nat))

-- a set with no members is empty
no_member : (s : Times) → ((f : ℕ) → set.contains s f ≡ false) → s ≡ set.empty
no_member s none = same_times _ _ (λ f. none f ∙ sym (set.contains-empty nat_cmp f))

-- where both together are empty, each is
pub empty_parts : (s t : Times) → set.union s t ≡ set.empty → (s ≡ set.empty) × (t ≡ set.empty)
empty_parts s t is =
    let each = λ (f : ℕ). sym (set.contains-union nat_cmp_total s t f) ∙ ap (λ u. set.contains u f) is ∙ set.contains-empty nat_cmp f in
    (no_member s (λ f. let known = each f in grind arith), no_member t (λ f. let known = each f in grind arith))

-- ---- the least member

pub least_union : (s t : Times) (a b m : ℕ) → m ≤ a → m ≤ b → ((m ≡ a → ⊥) → m ≡ b) → IsLeast s a → IsLeast t b → IsLeast (set.union s t) m
least_union s t a b m to_a to_b is in_s in_t = record {
  is_member = let x = in_s.is_member in let y = in_t.is_member in grind (arith, nat_tests, set.contains-union nat_cmp_total);
  is_below = λ u there.
      let known = set.contains-union nat_cmp_total s t u in
      grind (arith, nat_tests, in_s.is_below u, in_t.is_below u);
}

-- ---- the only member

-- a part of the set of one time is that or empty
part_of_just : (s : Times) (t : ℕ) → ((f : ℕ) → set.contains s f ≡ true → f ≡ t) → (s ≡ set.empty → ⊥) → s ≡ just t
part_of_just s t part some =
    let there : set.contains s t ≡ true = true_from_ne_false (set.contains s t) (λ no. some (no_member s (λ f. let is = part f in grind arith))) in
    same_times s (just t) (λ f. let is = part f in grind (arith, nat_tests, contains-just))

-- two sets with a member each have one member together where both have that one alone
only_common : (s t : Times) (k : ℕ) → (s ≡ set.empty → ⊥) → (t ≡ set.empty → ⊥) → ((s ≡ just k) × (t ≡ just k)) ↔ (set.union s t ≡ just k)
only_common s t k some_s some_t = (
  λ both. rw (both.0, both.1) (same_times _ _ (λ f. grind (arith, set.contains-union nat_cmp_total))),
  λ is.
      let each = λ (f : ℕ). sym (set.contains-union nat_cmp_total s t f) ∙ ap (λ u. set.contains u f) is ∙ contains-just k f in (
        part_of_just s k (λ f there. let known = each f in grind (arith, nat_tests)) some_s,
        part_of_just t k (λ f there. let known = each f in grind (arith, nat_tests)) some_t,
      ),
)

-- the only member of two sets that are not empty, from that of each
pub only_both : (s t : Times) (x y r : Option ℕ) → (s ≡ set.empty → ⊥) → (t ≡ set.empty → ⊥) → (k : ℕ) → (x ≡ Some k) ↔ (s ≡ just k)
    → (y ≡ Some k) ↔ (t ≡ just k) → (r ≡ Some k) ↔ ((x ≡ Some k) × (y ≡ Some k)) → (r ≡ Some k) ↔ (set.union s t ≡ just k)
only_both s t x y r some_s some_t k of_s of_t both = (
  λ is. let each = both.0 is in (only_common s t k some_s some_t).0 (of_s.0 each.0, of_t.0 each.1),
  λ is. let each = (only_common s t k some_s some_t).1 is in both.1 (of_s.1 each.0, of_t.1 each.1),
)

-- a set is not empty where that is answered
pub not_empty : (s : Times) (r : Bool) → (r ≡ true) ↔ (s ≡ set.empty) → r ≡ false → s ≡ set.empty → ⊥
not_empty s r is answer empty = false≢true (sym answer ∙ is.1 empty)
