-- How many spans a set of times has, and how many times at which one begins.
use Rattle.sets25.proofs.Words.{[], ap, arith, begin_count, BelowDay, cond, contains-every_time, contains-frames_below, contains-retain_nat, day, Direction, eqb, every_time, false}
use Rattle.sets25.proofs.Words.{frames_below, image, just, List, lt-ltb, moved, moved_from, nat_cmp, nat_cmp_total, nat_tests, Next, next_frame, not, Prev, prev_frame, refl}
use Rattle.sets25.proofs.Words.{span_count, suc, sym, Times, true, unsigned_tied, zero, ℕ, ◌&&◌, ◌*◌, ◌+◌, ◌-◌, ◌/◌, ◌<◌, ◌||◌, ◌∙◌, ◌∷◌, ◌≡◌, ◌≤◌}
use Rattle.std.specs.FinSet as set
use Rattle.tc25.specs.declared.rate.Rate.{Rate}
use Rattle.sets25.proofs.TimesLemmas.{contains-insert_nat, contains-items_nat, contains-moved, even_day, moved_back, same_times}

-- ---- the size of sets

-- each member of s is one of t
abbrev Within : Times → Times → Type 0
Within s t = (f : ℕ) → set.contains s f ≡ true → set.contains t f ≡ true

pub contains-remove_nat : (s : Times) (k f : ℕ) → set.contains (set.remove s k) f ≡ (not (eqb f k) && set.contains s f)
contains-remove_nat s k f = set.contains-remove nat_cmp_total s k f ∙ ap (λ b. not b && set.contains s f) (unsigned_tied f k)

is_list : (s : Times) → set.from_list (set.items s) ≡ s
is_list s = same_times (set.from_list (set.items s)) s (λ f. set.contains-from_list_nat (set.items s) f ∙ sym (contains-items_nat s f))

-- each member of t is h of one of s
abbrev ComesFrom : (ℕ → ℕ) → Times → Times → Type 0
ComesFrom h s t = (f : ℕ) → set.contains t f ≡ true → (g : ℕ) × (set.contains s g ≡ true) × (f ≡ h g)

from_more : (h : ℕ → ℕ) (s t : Times) (k : ℕ) → ComesFrom h (set.insert s k) t → ((u : Times) → ComesFrom h s u → set.len u ≤ set.len s)
    → set.len t ≤ set.len (set.insert s k)
from_more h s t k from later =
    let again = λ (is : set.contains s k ≡ true). later t (λ f there. let w = from f there in (w.0, grind (arith, nat_tests, contains-insert_nat), w.2)) in
    let fresh = later (set.remove t (h k)) (λ f there.
    let w = from f (grind (arith, contains-remove_nat)) in
    (w.0, grind (arith, nat_tests, contains-remove_nat, contains-insert_nat), w.2)) in
    grind (arith, set.len-insert nat_cmp_total s k, set.len-remove nat_cmp_total t (h k))

from_items : (h : ℕ → ℕ) (ks : List ℕ) (t : Times) → ComesFrom h (set.from_list ks) t → set.len t ≤ set.len (set.from_list {R = nat_cmp} ks)
from_items h [] t from = omega (arith, ap set.len (same_times t set.empty (λ f. let w = from f in grind (arith, set.contains-empty nat_cmp))))
from_items h (k ∷ ks) t from = from_more h (set.from_list ks) t k from (from_items h ks)

-- a set has at least as many members as one whose members come from it
len_from : (h : ℕ → ℕ) (s t : Times) → ComesFrom h s t → set.len t ≤ set.len s
len_from h s t from = rw is_list at (from_items h (set.items s) t (rw (← is_list s) at from))

len_within : (s t : Times) → Within s t → set.len s ≤ set.len t
len_within s t within = len_from (λ f. f) t s (λ f there. (f, within f there, refl))

-- and one more member is one more at most
len_within_insert : (s t : Times) (k : ℕ) → Within s (set.insert t k) → set.len s ≤ set.len t + 1
len_within_insert s t k within = let most = len_within s (set.insert t k) within in grind (arith, set.len-insert nat_cmp_total)

module _ (rate : Rate) where
  -- ---- where a set begins

  abbrev begins : Times → Times
  begins s = set.retain s (λ t. not (set.contains s (prev_frame rate t)))

  abbrev pub span_firsts : Times → Times
  span_firsts s = set.retain s (λ t. eqb t 0 || not (set.contains s (t - 1)))

  -- ---- under each call

  -- a shift keeps the number of beginnings
  pub begin_count-moved : (d : Direction) (s : Times) → BelowDay rate s → begin_count rate (image (moved rate d) s) ≡ begin_count rate s
  unfolding begin_count
  begin_count-moved d s below =
      let lower = len_from (moved rate d) (begins s) (begins (image (moved rate d) s)) (λ f there.
      let in_day : f < day rate = grind (arith, nat_tests, contains-retain_nat, contains-moved rate d s below) in
      (moved_from rate d f, grind (arith, nat_tests, contains-retain_nat, contains-moved rate d s below, moved_back rate Prev f), (moved_back rate d f in_day).3)) in
      let upper = len_from (moved_from rate d) (begins (image (moved rate d) s)) (begins s) (λ f there.
      let in_day = below f (grind (arith, contains-retain_nat)) in
      (moved rate d f, grind (arith, nat_tests, contains-retain_nat, contains-moved rate d s below, moved_back rate Prev f), (moved_back rate d f in_day).2)) in
      omega arith

  pub begin_count-next : (s : Times) → BelowDay rate s → begin_count rate (image (next_frame rate) s) ≡ begin_count rate s
  begin_count-next = begin_count-moved Next

  pub begin_count-prev : (s : Times) → BelowDay rate s → begin_count rate (image (prev_frame rate) s) ≡ begin_count rate s
  begin_count-prev = begin_count-moved Prev

  -- a widening does not raise it
  pub begin_count-widened_next : (s : Times) → BelowDay rate s → begin_count rate (set.union s (image (next_frame rate) s)) ≤ begin_count rate s
  unfolding begin_count
  begin_count-widened_next s below =
      len_within (begins (set.union s (image (next_frame rate) s))) (begins s)
      (λ f there. grind (arith, nat_tests, contains-retain_nat, set.contains-union nat_cmp_total, contains-moved rate Next s below))

  pub begin_count-widened_prev : (s : Times) → BelowDay rate s → begin_count rate (set.union s (image (prev_frame rate) s)) ≤ begin_count rate s
  unfolding begin_count
  begin_count-widened_prev s below =
      len_from (prev_frame rate) (begins s) (begins (set.union s (image (prev_frame rate) s))) (λ f there.
      let known = simp (contains-retain_nat, set.contains-union nat_cmp_total, contains-moved rate Prev s below) at there in
      let in_day : f < day rate = grind (arith, nat_tests, below f) in
      (next_frame rate f, grind (arith, nat_tests, contains-retain_nat, moved_back rate Prev f), (moved_back rate Prev f in_day).3))

  -- a time that is added raises it by one at most
  pub begin_count-insert : (s : Times) (t : ℕ) → begin_count rate (set.insert s t) ≤ begin_count rate s + 1
  unfolding begin_count
  begin_count-insert s t = len_within_insert (begins (set.insert s t)) (begins s) t
      (λ f there. grind (arith, nat_tests, contains-retain_nat, contains-insert_nat))

  -- a set has one span more than beginnings at most
  pub span_count-begin_count : (s : Times) → span_count s ≤ begin_count rate s + 1
  unfolding span_count begin_count
  span_count-begin_count s = len_within_insert (span_firsts s) (begins s) 0 (λ f there. grind (arith, nat_tests, contains-retain_nat, contains-insert_nat))

  -- a set has no more beginnings than spans
  pub begin_count-span_count : (s : Times) → begin_count rate s ≤ span_count s
  unfolding begin_count span_count
  begin_count-span_count s = len_within (begins s) (span_firsts s) (λ f there. grind (arith, nat_tests, contains-retain_nat))

  -- ---- small sets, and the greatest number

  -- a set has no more beginnings than a set with each of them
  few_begins : (s t : Times) → ((f : ℕ) → set.contains s f ≡ true → set.contains s (prev_frame rate f) ≡ false → set.contains t f ≡ true) → begin_count rate s ≤ set.len t
  unfolding begin_count
  few_begins s t goes = len_within (begins s) t (λ f there. goes f (grind (arith, contains-retain_nat)) (grind (arith, contains-retain_nat)))

  pub begin_count-empty : begin_count rate set.empty ≡ 0
  begin_count-empty = omega (arith, set.len-empty nat_cmp, few_begins set.empty set.empty (λ f there _. there))

  pub begin_count-every_time : begin_count rate (every_time rate) ≡ 0
  begin_count-every_time =
      omega (arith, set.len-empty nat_cmp, few_begins (every_time rate) set.empty (λ f there gone. grind (arith, nat_tests, contains-every_time rate, moved_back rate Prev f)))

  len_just : (t : ℕ) → set.len (just t) ≤ 1
  unfolding just
  len_just t = grind (arith, set.len-insert nat_cmp_total, set.len-empty nat_cmp)

  pub begin_count-just : (t : ℕ) → begin_count rate (just t) ≤ 1
  begin_count-just t = omega (arith, len_just t, few_begins (just t) (just t) (λ f there _. there))

  pub begin_count-kept : (s : Times) (t : ℕ) → begin_count rate (set.intersection s (just t)) ≤ 1
  begin_count-kept s t =
      omega (arith, len_just t, few_begins (set.intersection s (just t)) (just t) (λ f there _. grind (arith, set.contains-intersection nat_cmp_total)))

  len_frames_below : (n : ℕ) → set.len (frames_below n) ≡ n
  unfolding frames_below
  len_frames_below zero = set.len-empty nat_cmp
  len_frames_below (suc n) = grind (arith, nat_tests, set.len-insert nat_cmp_total, contains-frames_below n n, len_frames_below n)

  -- of two neighbours one at most begins a span: the one of a pair that does
  abbrev of_pair : Times → ℕ → ℕ
  of_pair s k = cond (set.contains (span_firsts s) (2 * k)) (2 * k) (2 * k + 1)

  picked : (s : Times) (f : ℕ) → set.contains (span_firsts s) f ≡ true → f ≡ of_pair s (f / 2)
  picked s f there = grind (arith, nat_tests, contains-retain_nat)

  -- a set of times of the day has half as many spans as the day has frames, at most
  pub span_count-in_day : (s : Times) → BelowDay rate s → span_count s ≤ (day rate / 2)
  unfolding span_count
  span_count-in_day s below =
      let half = len_from (of_pair s) (frames_below (day rate / 2)) (span_firsts s) (λ f there.
      let bound = below f (grind (arith, contains-retain_nat)) in
      (f / 2, contains-frames_below (day rate / 2) (f / 2) ∙ lt-ltb (f / 2) (day rate / 2) (omega (arith, even_day rate)), picked s f there)) in
      omega (arith, len_frames_below (day rate / 2))
