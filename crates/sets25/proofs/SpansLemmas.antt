-- Lists of spans in canonical form: what they cover, and what keeps their form.
use Rattle.sets25.proofs.Words.{[], add-one, All, and_right, ap, append_assoc, arith, Bool, cond, day, Direction, drop, drop_more, EndsBefore, eqb, false, false≢true, far_edge_of, get_or}
use Rattle.sets25.proofs.Words.{glue, in_span, insert, is_covered, IsCanonical, IsNonDecreasingBy, IsPlace, IsSpan, joined, le-leb, leb, length, length-drop, length-take-le, List}
use Rattle.sets25.proofs.Words.{list_any-append, list_any_none, map, max, min, moved, moved_from, nat_tests, Next, not, point, Prev, refl, remove, set, set_at, shifted_span, Span}
use Rattle.sets25.proofs.Words.{stays, suc, sym, take, take-append-drop, take_more, true, widened_span, with_frame, without_edge, zero, ℕ, ◌&&◌, ◌++◌, ◌+◌, ◌-◌, ◌<◌, ◌||◌, ◌∙◌}
use Rattle.sets25.proofs.Words.{◌∷◌, ◌≡◌, ◌≤◌}
use Rattle.tc25.specs.Day.{last_frame, longest_day}
use Rattle.tc25.specs.declared.rate.Rate.{Rate}
use Rattle.std.specs.Prelude.{Err, Ok, OnErr, OnOk, Result}
use Rattle.sets25.specs.Spans.{AreSpansOfDay}
use Rattle.sets25.proofs.TimesLemmas.{even_day, some_day, within_longest}

-- ---- order

pub canonical_from : (low high : ℕ) (xs : List Span) → low ≤ high → IsCanonical high xs → IsCanonical low xs
canonical_from low high [] le c = tt
canonical_from low high (s ∷ xs) le c = (omega arith, c.1, c.2)

pub canonical_parts : (low : ℕ) (us bs : List Span) → IsCanonical low (us ++ bs) → IsCanonical low us × IsCanonical low bs
canonical_parts low [] bs c = (tt, c)
canonical_parts low (s ∷ us) bs c =
    let later = canonical_parts (s.last + 2) us bs c.2 in
    ((c.0, c.1, later.0), canonical_from low (s.last + 2) bs (omega arith) later.1)

pub canonical_at : (low : ℕ) (xs : List Span) → IsCanonical low xs → (k : ℕ) (d : Span) → k < length xs → (low ≤ (get_or xs k d).first) × IsSpan (get_or xs k d)
canonical_at low [] c k d h = absurd (omega arith)
canonical_at low (s ∷ xs) c zero d h = (c.0, c.1)
canonical_at low (s ∷ xs) c (suc k) d h = let later = canonical_at (s.last + 2) xs c.2 k d (omega arith) in (omega arith, later.1)

pub lasts_rise : (low : ℕ) (xs : List Span) → IsCanonical low xs → IsNonDecreasingBy (λ (s : Span). s.last) xs
lasts_rise low (s ∷ xs) c zero zero d le h = omega arith
lasts_rise low (s ∷ xs) c zero (suc j) d le h = let later = canonical_at (s.last + 2) xs c.2 j d (omega arith) in omega arith
lasts_rise low (s ∷ xs) c (suc i) (suc j) d le h = lasts_rise (s.last + 2) xs c.2 i j d (omega arith) (omega arith)
lasts_rise low xs c i j d le h = absurd (omega arith)

-- ---- what is covered

pub uncovered_below : (low : ℕ) (xs : List Span) → IsCanonical low xs → (f : ℕ) → f < low → is_covered f xs ≡ false
uncovered_below low [] c f h = refl
uncovered_below low (s ∷ xs) c f h = let later = uncovered_below (s.last + 2) xs c.2 f in grind (arith, nat_tests)

-- whether the first span begins at f or before
abbrev pub first_by : ℕ → List Span → Bool
first_by f [] = false
first_by f (s ∷ xs) = leb s.first f

-- spans that end before f do not cover it
pub covered_past : (f g : ℕ) (us xs : List Span) → All (EndsBefore g) us → g ≤ f → is_covered f (us ++ xs) ≡ is_covered f xs
covered_past f g us xs before le = rw (list_any-append, list_any_none (in_span f) us (λ k d h. let at = before k d h in grind (arith, nat_tests))) refl

covered_first : (f low : ℕ) (xs : List Span) → IsCanonical low xs → ((d : Span) → 0 < length xs → f ≤ (get_or xs 0 d).last) → is_covered f xs ≡ first_by f xs
covered_first f low [] c ends = refl
covered_first f low (s ∷ xs) c ends = grind (arith, nat_tests, uncovered_below (s.last + 2) xs c.2 f, ends s (omega arith))

pub covered_at : (f : ℕ) (xs : List Span) → IsCanonical 0 xs → (i : ℕ) → IsPlace f xs i → is_covered f xs ≡ first_by f (drop i xs)
covered_at f xs c i p =
    let behind = (canonical_parts 0 (take i xs) (drop i xs) (rw take-append-drop c)).1 in
    grind (arith, take-append-drop i xs, covered_past f f (take i xs) (drop i xs) p.below, covered_first f 0 (drop i xs) behind p.above)

-- ---- glue

pub canonical_glue : (low : ℕ) (s : Span) (xs : List Span) → low ≤ s.first → IsSpan s → IsCanonical (s.last + 1) xs → IsCanonical low (glue s xs)
canonical_glue low s [] le span c = (le, span, tt)
canonical_glue low s (t ∷ xs) le span c = grind (arith, nat_tests)

pub covered_glue : (f : ℕ) (s : Span) (xs : List Span) → IsSpan s → IsCanonical (s.last + 1) xs → is_covered f (glue s xs) ≡ (in_span f s || is_covered f xs)
covered_glue f s [] span c = refl
covered_glue f s (t ∷ xs) span c = grind (arith, nat_tests)

-- ---- one frame more

-- a span with a frame more, where it touches it
abbrev pub grown : ℕ → Span → Span
grown f s = record { first = min s.first f; last = max s.last f }

pub canonical_with : (low f : ℕ) (xs : List Span) → IsCanonical low xs → low ≤ f → f < longest_day → IsCanonical low (with_frame f xs)
canonical_with low f [] c le in_day = (le, (omega arith, in_day), tt)
canonical_with low f (s ∷ xs) c le in_day =
    let glued = λ (touch : f ≤ s.last + 1). canonical_glue low (grown f s) xs (omega arith) (omega arith) (canonical_from _ (s.last + 2) xs (omega arith) c.2) in
    grind (arith, nat_tests, canonical_with (s.last + 2) f xs c.2)

pub covered_with : (g low f : ℕ) (xs : List Span) → IsCanonical low xs → f < longest_day → is_covered g (with_frame f xs) ≡ (eqb g f || is_covered g xs)
covered_with g low f [] c in_day = grind (arith, nat_tests)
covered_with g low f (s ∷ xs) c in_day =
    let glued = λ (touch : f ≤ s.last + 1). covered_glue g (grown f s) xs (omega arith) (canonical_from _ (s.last + 2) xs (omega arith) c.2) in
    grind (arith, nat_tests, covered_with g (s.last + 2) f xs c.2 in_day)

-- ---- where a frame goes

pub with_frame-past : (f : ℕ) (us xs : List Span) → All (EndsBefore (f - 1)) us → with_frame f (us ++ xs) ≡ us ++ with_frame f xs
with_frame-past f [] xs before = refl
with_frame-past f (s ∷ us) xs before =
    grind (arith, nat_tests, before 0 s (omega arith), with_frame-past f us xs (λ k d h. before (suc k) d (omega arith)))

module _ (f : ℕ) (xs : List Span) (i : ℕ) (p : IsPlace (f - 1) xs i) where
  from_place : with_frame f xs ≡ take i xs ++ with_frame f (drop i xs)
  from_place = ap (with_frame f) (sym (take-append-drop i xs)) ∙ with_frame-past f (take i xs) (drop i xs) p.below

  -- a frame that a span touches goes into it
  pub with_frame-grown : (d : Span) → i < length xs → (get_or xs i d).first ≤ f + 1
      → with_frame f xs ≡ take i xs ++ glue (grown f (get_or xs i d)) (drop (i + 1) xs)
  with_frame-grown d h touch = from_place ∙ grind (arith, nat_tests, length-drop, drop_more xs i d h, p.above d)

  module _ (apart : (d : Span) → 0 < length (drop i xs) → f + 1 < (get_or (drop i xs) 0 d).first) where
    -- a frame that no span touches is put between two
    pub with_frame-alone : with_frame f xs ≡ insert xs i (point f)
    with_frame-alone = from_place ∙ ap (λ ys. take i xs ++ ys) (alone (drop i xs) p.above apart)
      where
        alone : (ys : List Span) → ((d : Span) → 0 < length ys → f - 1 ≤ (get_or ys 0 d).last) → ((d : Span) → 0 < length ys → f + 1 < (get_or ys 0 d).first)
            → with_frame f ys ≡ point f ∷ ys
        alone [] ends apart = refl
        alone (s ∷ ys) ends apart = let end = ends s (omega arith) in let far = apart s (omega arith) in grind (arith, nat_tests)

    -- and no frame next to it is covered
    pub uncovered_near : IsCanonical 0 xs → (g : ℕ) → f ≤ g + 1 → g ≤ f + 1 → is_covered g xs ≡ false
    uncovered_near c g near far =
        let behind = (canonical_parts 0 (take i xs) (drop i xs) (rw take-append-drop c)).1 in
        grind (arith, take-append-drop i xs, covered_past g (f - 1) (take i xs) (drop i xs) p.below, none (drop i xs) behind apart)
      where
        none : (ys : List Span) → IsCanonical 0 ys → ((d : Span) → 0 < length ys → f + 1 < (get_or ys 0 d).first) → is_covered g ys ≡ false
        none [] c apart = refl
        none (s ∷ ys) c apart = let gap = apart s (omega arith) in uncovered_below s.first (s ∷ ys) (omega arith, c.1, c.2) g (omega arith)

-- ---- a span replaced, and joined to the next

pub put_touching : (xs : List Span) (i : ℕ) (s d : Span) → i + 1 < length xs → (get_or xs (i + 1) d).first ≤ s.last + 1
    → set (remove xs (i + 1)) i (record { first = s.first; last = (get_or xs (i + 1) d).last }) ≡ take i xs ++ glue s (drop (i + 1) xs)
put_touching xs i s d h touch =
    rw (
      drop_more xs (i + 1) d h,
      le-leb _ _ touch,
      add-one (i + 1),
      take_more xs i d (omega arith),
      append_assoc,
      set_at (take i xs) _ _ _ i
          (length-take-le i xs (omega arith)),
    ) refl

-- ---- joining, a span at a time

pub glue-glue : (s t : Span) (ys : List Span) → glue s (glue t ys)
    ≡ cond (leb t.first (s.last + 1)) (glue (record { first = s.first; last = t.last }) ys) (s ∷ glue t ys)
glue-glue s t [] = grind (arith, nat_tests)
glue-glue s t (u ∷ ys) = grind (arith, nat_tests)

-- ---- the day of the spans

module _ (rate : Rate) where
  -- a span with a frame of the day more
  pub of_day-glue : (s : Span) (xs : List Span) → s.last < day rate → AreSpansOfDay rate xs → AreSpansOfDay rate (glue s xs)
  of_day-glue s [] in_day of = (in_day, tt)
  of_day-glue s (t ∷ xs) in_day of = grind (arith, nat_tests)

  pub of_day-with : (f : ℕ) (xs : List Span) → f < day rate → AreSpansOfDay rate xs → AreSpansOfDay rate (with_frame f xs)
  of_day-with f [] in_day of = (in_day, tt)
  of_day-with f (s ∷ xs) in_day of =
      let glued = of_day-glue (grown f s) xs (omega (arith, of.0)) of.1 in
      grind (arith, nat_tests, of_day-with f xs in_day of.1)

  -- a frame of the day added, or not
  pub of_day-added : {T E : Type 0} (r : Result T E) (f : ℕ) (old new : List Span) → f < day rate → AreSpansOfDay rate old → OnOk r (new ≡ with_frame f old)
      → OnErr r (new ≡ old) → AreSpansOfDay rate new
  of_day-added (Ok t) f old new in_day of ok err = rw ok (of_day-with f old in_day of)
  of_day-added (Err e) f old new in_day of ok err = rw err of

  -- spans whose frames are of the day
  pub of_day-from_covered : (low : ℕ) (xs : List Span) → IsCanonical low xs → ((f : ℕ) → is_covered f xs ≡ true → f < day rate) → AreSpansOfDay rate xs
  of_day-from_covered low [] c in_day = tt
  of_day-from_covered low (s ∷ xs) c in_day =
      (in_day s.last (grind (arith, nat_tests)), of_day-from_covered (s.last + 2) xs c.2 (λ f there. in_day f (grind (arith, nat_tests))))

  pub covered_in_day : (xs : List Span) → AreSpansOfDay rate xs → (f : ℕ) → is_covered f xs ≡ true → f < day rate
  covered_in_day [] of f there = absurd (false≢true there)
  covered_in_day (s ∷ xs) of f there = let later = covered_in_day xs of.1 f in grind (arith, nat_tests)

  -- spans of which one is kept, or nothing
  pub of_day-kept : (f : ℕ) (xs : List Span) → AreSpansOfDay rate xs → AreSpansOfDay rate (cond (is_covered f xs) (point f ∷ []) [])
  of_day-kept f xs of = by (is_covered f xs) (covered_in_day xs of f)
    where
      by : (b : Bool) → (b ≡ true → f < day rate) → AreSpansOfDay rate (cond b (point f ∷ []) [])
      by true in_day = (in_day refl, tt)
      by false in_day = tt

  pub shifted_of_day : (d : Direction) (xs : List Span) → AreSpansOfDay rate xs → AreSpansOfDay rate (map (shifted_span rate d) (without_edge rate d xs))
  shifted_of_day d [] of = tt
  shifted_of_day d (s ∷ xs) of = let later = shifted_of_day d xs of.1 in let some = some_day rate in grind (arith, nat_tests)

  pub widened_of_day : (d : Direction) (xs : List Span) → AreSpansOfDay rate xs → AreSpansOfDay rate (joined (map (widened_span rate d) xs))
  widened_of_day d [] of = tt
  widened_of_day d (s ∷ xs) of =
      let some = some_day rate in
      of_day-glue (widened_span rate d s) (joined (map (widened_span rate d) xs)) (grind (arith, nat_tests)) (widened_of_day d xs of.1)

  -- ---- a shift within the day

  -- a list from `high` on is then from where that frame is moved to on
  pub canonical_shift : (d : Direction) (low high : ℕ) (xs : List Span) → low ≤ (shifted_span rate d (point high)).first → IsCanonical high xs → AreSpansOfDay rate xs
      → IsCanonical low (map (shifted_span rate d) (without_edge rate d xs))
  canonical_shift d low high [] le c of = tt
  canonical_shift d low high (s ∷ xs) le c of =
      let short = within_longest rate in
      let later = λ (kept : stays rate d s ≡ true). canonical_shift d ((shifted_span rate d s).last + 2) (s.last + 2) xs (grind arith) c.2 of.1 in
      grind (arith, nat_tests, canonical_shift d low (s.last + 2) xs (grind arith) c.2 of.1)

  pub covered_shift : (d : Direction) (f low : ℕ) (xs : List Span) → f < day rate → IsCanonical low xs → AreSpansOfDay rate xs
      → is_covered f (map (shifted_span rate d) (without_edge rate d xs)) ≡ (not (eqb f (far_edge_of rate d)) && is_covered (moved_from rate d f) xs)
  covered_shift d f low [] h c of = sym (and_right _ _ refl)
  covered_shift d f low (s ∷ xs) h c of =
      let one : (stays rate d s && in_span f (shifted_span rate d s)) ≡ (not (eqb f (far_edge_of rate d)) && in_span (moved_from rate d f) s) =
      grind (arith, nat_tests) in
      grind (arith, covered_shift d f (s.last + 2) xs h c.2 of.1)

  -- ---- a widening within the day

  pub canonical_widen : (d : Direction) (low high : ℕ) (xs : List Span) → low ≤ (widened_span rate d (point high)).first → IsCanonical high xs → AreSpansOfDay rate xs
      → IsCanonical low (joined (map (widened_span rate d) xs))
  canonical_widen d low high [] le c of = tt
  canonical_widen d low high (s ∷ xs) le c of =
      let short = within_longest rate in
      canonical_glue low (widened_span rate d s) _ (grind arith) (grind arith)
      (canonical_widen d ((widened_span rate d s).last + 1) (s.last + 2) xs (grind arith) c.2 of.1)

  in_widened : (d : Direction) (f : ℕ) (s : Span) → f < day rate → IsSpan s → s.last < day rate
      → in_span f (widened_span rate d s) ≡ (in_span f s || (not (eqb f (far_edge_of rate d)) && in_span (moved_from rate d f) s))
  in_widened d f s h span in_day = grind (arith, nat_tests)

  pub covered_widened : (d : Direction) (f low : ℕ) (xs : List Span) → f < day rate → IsCanonical low xs → AreSpansOfDay rate xs
      → is_covered f (joined (map (widened_span rate d) xs)) ≡ (is_covered f xs || (not (eqb f (far_edge_of rate d)) && is_covered (moved_from rate d f) xs))
  covered_widened d f low [] h c of = sym (and_right _ _ refl)
  covered_widened d f low (s ∷ xs) h c of =
      let short = within_longest rate in
      let glued = covered_glue f (widened_span rate d s) _ (grind arith) (canonical_widen d _ (s.last + 2) xs (grind arith) c.2 of.1) in
      grind (arith, in_widened d f s h c.1 of.0, covered_widened d f (s.last + 2) xs h c.2 of.1)

  -- ---- the span that would leave the day

  pub edge_at_end : (low : ℕ) (xs : List Span) (n : ℕ) (d : Span) → IsCanonical low xs → AreSpansOfDay rate xs → length xs ≡ suc n
      → without_edge rate Next xs ≡ cond (eqb (get_or xs n d).first (last_frame rate)) (take n xs) xs
  edge_at_end low (x ∷ []) zero d c of e = grind arith
  edge_at_end low (x ∷ t ∷ xs) (suc n) d c of e = let later = edge_at_end (x.last + 2) (t ∷ xs) n d c.2 of.1 (omega arith) in grind (arith, nat_tests)
  edge_at_end low xs n d c of e = absurd (omega arith)

  pub edge_at_start : (low : ℕ) (xs : List Span) (d : Span) → IsCanonical low xs → 0 < length xs
      → without_edge rate Prev xs ≡ cond (eqb (get_or xs 0 d).last 0) (drop 1 xs) xs
  edge_at_start low [] d c some = absurd (omega arith)
  edge_at_start low (s ∷ []) d c some = grind arith
  edge_at_start low (s ∷ t ∷ xs) d c some = let later = edge_at_start (s.last + 2) (t ∷ xs) d c.2 (omega arith) in grind (arith, nat_tests)

  -- ---- round the day

  -- where the frame at which a shift comes in was covered, its neighbour is covered afterwards
  pub neighbour_covered : (d : Direction) (xs : List Span) → IsCanonical 0 xs → AreSpansOfDay rate xs → is_covered (far_edge_of rate d) xs ≡ true
      → ((f : ℕ) → far_edge_of rate d ≤ f + 1 → f ≤ far_edge_of rate d + 1 → is_covered f (map (shifted_span rate d) (without_edge rate d xs)) ≡ false) → ⊥
  neighbour_covered d xs c of there none =
      let some = two_days in
      grind (arith, nat_tests, none (moved rate d (far_edge_of rate d)), covered_shift d (moved rate d (far_edge_of rate d)) 0 xs)
    where
      two_days : 1 < day rate
      two_days = omega (arith, some_day rate, even_day rate)
