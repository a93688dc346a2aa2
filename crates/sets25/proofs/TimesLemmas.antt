-- What the members of sets of times are, one time at a time.
use Rattle.sets25.proofs.Words.{[], Any-from_list_any, ap, arith, BelowDay, Bool, cond, contains-every_time, contains-times_where, day, Direction, eq-eqb, eqb, eqb-true}
use Rattle.sets25.proofs.Words.{every_time, false, get_or, get_or-map, image, IsLeast, just, length, length-map, List, list_any, list_any_at, ltb, map, MatchOption, moved}
use Rattle.sets25.proofs.Words.{moved_from, nat_cmp, nat_cmp_total, nat_eq, nat_tests, None, Option, refl, slice_get, Some, SomeIff, sym, Times, times_where, times_where_below}
use Rattle.sets25.proofs.Words.{true, true_from_ne_false, unsigned_tied, ℕ, ◌&&◌, ◌*◌, ◌/◌, ◌<◌, ◌||◌, ◌↔◌, ◌∙◌, ◌∷◌, ◌≡◌, ◌≤◌}
use Rattle.std.specs.FinSet as set
use Rattle.tc25.specs.Day.{longest_day}
use Rattle.sets25.specs.Times.{just_of, with_time}
use Rattle.tc25.specs.declared.rate.Rate.{Rate}

-- ---- tests

-- two tests are equal where each follows from the other
pub same_test : (a b : Bool) → (a ≡ true → b ≡ true) → (b ≡ true → a ≡ true) → a ≡ b
same_test a b there back = grind arith

-- nothing in a list without a first item passes
pub none_passes : {X : Type 0} (test : X → Bool) (xs : List X) → None ≡ slice_get xs 0 → list_any test xs ≡ false
none_passes test [] none = refl
none_passes test (x ∷ xs) none = absurd (cc)

-- ---- the members of each set

-- sets with the same members are equal
pub same_times : (s t : Times) → ((f : ℕ) → set.contains s f ≡ set.contains t f) → s ≡ t
same_times s t same = set.same_set nat_cmp_total set.nat_cmp-IsAntisymmetric s t same

pub contains-insert_nat : (s : Times) (k f : ℕ) → set.contains (set.insert s k) f ≡ (eqb f k || set.contains s f)
contains-insert_nat s k f = set.contains-insert nat_cmp_total s k f ∙ ap (λ b. b || set.contains s f) (unsigned_tied f k)

pub contains-just : (t f : ℕ) → set.contains (just t) f ≡ eqb f t
unfolding just
contains-just t f = grind (arith, nat_tests, contains-insert_nat, set.contains-empty nat_cmp)

-- ---- images

pub contains-items_nat : (s : Times) (f : ℕ) → set.contains s f ≡ list_any (λ y. nat_eq y f) (set.items s)
contains-items_nat s f = set.contains-items s f ∙ sym (set.contains-from_list nat_cmp_total (set.items s) f) ∙ set.contains-from_list_nat (set.items s) f

-- a member of an image comes from a member
pub image_from : (h : ℕ → ℕ) (s : Times) (f : ℕ) → set.contains (image h s) f ≡ true → (g : ℕ) × (set.contains s g ≡ true) × (f ≡ h g)
unfolding image
image_from h s f there =
    let xs = set.items s in
    let w = Any-from_list_any (λ y. nat_eq y f) (map h xs) (sym (set.contains-from_list_nat (map h xs) f) ∙ there) in
    let fits : w.0 < length xs = omega (arith, w.2, length-map xs h) in
    let g = get_or xs w.0 0 in (
      g,
      contains-items_nat s g ∙ list_any_at (λ y. nat_eq y g) xs w.0 0 fits (eq-eqb g g refl),
      sym (eqb-true w.1 f w.4) ∙ sym w.3
          ∙ get_or-map h xs w.0 0 w.1 fits,
    )

-- a member goes into the image
pub image_to : (h : ℕ → ℕ) (s : Times) (g : ℕ) → set.contains s g ≡ true → set.contains (image h s) (h g) ≡ true
unfolding image
image_to h s g there =
    let xs = set.items s in
    let w = Any-from_list_any (λ y. nat_eq y g) xs (sym (contains-items_nat s g) ∙ there) in
    let at = get_or-map h xs w.0 w.1 (h g) w.2 ∙ ap h (w.3 ∙ eqb-true w.1 g w.4) in
    set.contains-from_list_nat (map h xs) (h g) ∙ list_any_at (λ y. nat_eq y (h g)) (map h xs) w.0 (h g) (omega (arith, w.2, length-map xs h))
    (eq-eqb _ (h g) at)

-- ---- what is kept of a set

pub kept : (s : Times) (t : ℕ) → set.intersection s (just t) ≡ cond (set.contains s t) (just t) set.empty
kept s t = same_times _ _ (λ f. grind (arith, nat_tests, set.contains-intersection nat_cmp_total, contains-just, set.contains-empty nat_cmp))

-- ---- the day of a rate

-- it has frames
pub some_day : (rate : Rate) → 0 < day rate
some_day rate = grind arith

-- an even number of them
pub even_day : (rate : Rate) → day rate ≡ 2 * (day rate / 2)
even_day rate = grind arith

-- and no more than the longest day
pub within_longest : (rate : Rate) → day rate ≤ longest_day
within_longest rate = grind arith

-- days of one length are of one rate
pub same_rate : (a b : Rate) → day a ≡ day b → a ≡ b
same_rate a b e = grind arith

module _ (rate : Rate) where
  -- a move there and back, within the day
  pub moved_back : (d : Direction) (f : ℕ) → f < day rate → (moved rate d f < day rate) × (moved_from rate d f < day rate) × (f ≡ moved_from rate d (moved rate d f))
      × (f ≡ moved rate d (moved_from rate d f))
  moved_back d f h = grind (arith, nat_tests)

  -- the members of a set of times that moved
  pub contains-moved : (d : Direction) (s : Times) → BelowDay rate s → (f : ℕ) → set.contains (image (moved rate d) s) f ≡ (ltb f (day rate) && set.contains s (moved_from rate d f))
  contains-moved d s below f =
      same_test _ _
      (λ there. let w = image_from (moved rate d) s f there in grind (arith, nat_tests, below w.0, moved_back d w.0))
      (λ both. grind (arith, nat_tests, moved_back d f, image_to (moved rate d) s (moved_from rate d f)))

  -- ---- the sets that the calls name, from the tests before and after

  -- a set is what the test makes where it has the times of the day that pass
  times_where-is : (q : ℕ → Bool) (s : Times) → ((f : ℕ) → set.contains s f ≡ (ltb f (day rate) && q f)) → times_where rate q ≡ s
  times_where-is q s same = same_times _ s (λ f. contains-times_where rate q f ∙ sym (same f))

  module _ (p q : ℕ → Bool) where
    pub times_where-insert : (t : ℕ) → t < day rate → ((f : ℕ) → f < day rate → q f ≡ (eqb f t || p f)) → times_where rate q ≡ set.insert (times_where rate p) t
    times_where-insert t in_day same = times_where-is q _ (λ f. grind (arith, nat_tests, contains-insert_nat, contains-times_where rate p, same f))

    pub times_where-common : (t : ℕ) → ((f : ℕ) → f < day rate → q f ≡ (p f && eqb f t)) → times_where rate q ≡ set.intersection (times_where rate p) (just t)
    times_where-common t same = times_where-is q _ (λ f. grind
        (arith, nat_tests, set.contains-intersection nat_cmp_total, contains-just, contains-times_where rate p, same f))

    pub times_where-moved : (d : Direction) → ((f : ℕ) → f < day rate → q f ≡ p (moved_from rate d f)) → times_where rate q ≡ image (moved rate d) (times_where rate p)
    times_where-moved d same =
        times_where-is q _ (λ f.
        grind (arith, nat_tests, contains-moved d (times_where rate p) (times_where_below rate p), contains-times_where rate p, moved_back d f, same f))

    pub times_where-widened : (d : Direction) → ((f : ℕ) → f < day rate → q f ≡ (p f || p (moved_from rate d f)))
        → times_where rate q ≡ set.union (times_where rate p) (image (moved rate d) (times_where rate p))
    times_where-widened d same =
        times_where-is q _ (λ f.
        grind (
          arith,
          nat_tests,
          set.contains-union nat_cmp_total,
          contains-moved d (times_where rate p) (times_where_below rate p),
          contains-times_where rate p,
          moved_back d f,
          same f,
        ))

    pub times_where-union : (r : ℕ → Bool) → ((f : ℕ) → f < day rate → q f ≡ (r f || p f)) → times_where rate q ≡ set.union (times_where rate p) (times_where rate r)
    times_where-union r same = times_where-is q _ (λ f. grind
        (arith, nat_tests, set.contains-union nat_cmp_total, contains-times_where rate p, contains-times_where rate r, same f))

  module _ (q : ℕ → Bool) where
    pub times_where-empty : ((f : ℕ) → f < day rate → q f ≡ false) → times_where rate q ≡ set.empty
    times_where-empty same = times_where-is q _ (λ f. grind (arith, nat_tests, set.contains-empty nat_cmp, same f))

    pub times_where-every : ((f : ℕ) → f < day rate → q f ≡ true) → times_where rate q ≡ every_time rate
    times_where-every same = times_where-is q _ (λ f. grind (arith, nat_tests, contains-every_time rate, same f))

    pub times_where-just : (t : ℕ) → t < day rate → ((f : ℕ) → f < day rate → q f ≡ eqb f t) → times_where rate q ≡ just t
    times_where-just t in_day same = times_where-is q _ (λ f. grind (arith, nat_tests, contains-just, same f))

  -- ---- one time more, where it is one of the day

  -- there already, or none of the day
  pub with_time-same : (p : ℕ → Bool) (t : ℕ) → (t < day rate → p t ≡ true) → times_where rate p ≡ with_time rate (times_where rate p) t
  with_time-same p t there = same_times _ _ (λ f. grind (arith, nat_tests, contains-insert_nat, contains-times_where rate p))

  pub with_time-insert : (p q : ℕ → Bool) (t : ℕ) → t < day rate → ((f : ℕ) → f < day rate → q f ≡ (eqb f t || p f))
      → times_where rate q ≡ with_time rate (times_where rate p) t
  with_time-insert p q t in_day same = let is = times_where-insert p q t in_day same in grind (arith, nat_tests)

  -- alone
  pub with_time-alone : (t : ℕ) → with_time rate set.empty t ≡ just_of rate t
  unfolding just
  with_time-alone t = refl

  pub kept_of : (s : Times) → BelowDay rate s → (t : ℕ) → set.intersection s (just t) ≡ cond (set.contains s t) (just_of rate t) set.empty
  kept_of s below t = let is = kept s t in let in_day = below t in grind (arith, nat_tests)

  -- ---- what a set is not

  -- a set of one time and no other
  pub just_iff : (q : ℕ → Bool) (x : ℕ) (r : Option ℕ) → SomeIff r (x < day rate) x → x < day rate → ((f : ℕ) → f < day rate → q f ≡ eqb f x) → (t : ℕ)
      → (r ≡ Some t) ↔ (times_where rate q ≡ just t)
  just_iff q x r given in_day same t = let some : r ≡ Some x = grind arith in rw some (
    λ is. let e : x ≡ t = cc in times_where-just q x in_day same ∙ ap just e,
    λ is. let at = ap (λ s. set.contains s x) is in grind (arith, nat_tests, contains-times_where rate, contains-just, same x),
  )

  -- a set of two times or more is not the set of one
  pub two_iff : (q : ℕ → Bool) (a b : ℕ) → a < day rate → b < day rate → (a ≡ b → ⊥) → q a ≡ true → q b ≡ true → (t : ℕ) → (None ≡ Some t) ↔ (times_where rate q ≡ just t)
  two_iff q a b a_in b_in apart has_a has_b t = (
    λ is. absurd (cc),
    λ is. let at_a = ap (λ s. set.contains s a) is in let at_b = ap (λ s. set.contains s b) is in grind (arith, nat_tests, contains-times_where rate, contains-just),
  )

  -- the empty set is not the set of one
  pub none_iff : (q : ℕ → Bool) → ((f : ℕ) → f < day rate → q f ≡ false) → (t : ℕ) → (None ≡ Some t) ↔ (times_where rate q ≡ just t)
  none_iff q empty t = (λ is. absurd (cc), λ is. let at = ap (λ s. set.contains s t) is in grind (arith, nat_tests, contains-times_where rate, contains-just, empty t))

  -- the empty set has no member, and another has one
  pub empty_iff : (q : ℕ → Bool) (r : Bool) → (r ≡ true → (f : ℕ) → f < day rate → q f ≡ false) → (r ≡ false → (a : ℕ) × (a < day rate) × (q a ≡ true))
      → (r ≡ true) ↔ (times_where rate q ≡ set.empty)
  empty_iff q r none some = (
    λ is. times_where-empty q (none is),
    λ is. true_from_ne_false r (λ no. let at = ap (λ s. set.contains s (some no).0) is in
        grind (arith, nat_tests, contains-times_where rate, set.contains-empty nat_cmp, (some no).1, (some no).2)),
  )

  -- the least member of a set, from its test
  pub least_from : (q : ℕ → Bool) (t : ℕ) (r : Option ℕ) → SomeIff r (t < day rate) t → t < day rate → q t ≡ true → ((f : ℕ) → f < day rate → q f ≡ true → t ≤ f)
      → MatchOption r (times_where rate q ≡ set.empty) (IsLeast (times_where rate q))
  least_from q t r given in_day there low = let some : r ≡ Some t = grind arith in rw some (record {
    is_member = grind (arith, nat_tests, contains-times_where rate);
    is_below = λ u has. low u (times_where_below rate q u has) (grind (arith, nat_tests, contains-times_where rate));
  })
