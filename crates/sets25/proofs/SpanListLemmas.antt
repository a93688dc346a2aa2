-- Spans in several lists: where a frame goes, and what becomes of the whole where one list changes.
use Rattle.sets25.proofs.Words.{[], add-one, All, All-append, All-cons, All-drop, All-nil, All-set, All-take, AllFilled, ap, append_assoc, arith, begin_of, Bool, cond, longest_day, drop}
use Rattle.sets25.proofs.Words.{drop-append-le, drop-map, drop-set-lt, drop_more, end_to_end, ended_at, EndsBefore, get_or, get_or-map, get_or-set_same, Global, glue, in_span}
use Rattle.sets25.proofs.Words.{insert, is_covered, IsCanonical, IsListPlace, leb, length, length-append, length-map, List, list_any-append, lists_in, lt-leb, map-append, map-set}
use Rattle.sets25.proofs.Words.{meet, nat_tests, None, only_span, refl, remove, set, Span, suc, sym, take, take-append-drop, take-map, take-set, take_more, Vec, with_frame, zero, ℕ, ◌*◌}
use Rattle.sets25.proofs.Words.{◌++◌, ◌+◌, ◌-◌, ◌<◌, ◌∙◌, ◌∷◌, ◌≡◌, ◌≤◌}
use Rattle.sets25.proofs.SpansLemmas.{canonical_parts, canonical_with, covered_past, grown, uncovered_below, with_frame-past}

-- ---- the whole, around the list at a place

pub end_to_end-append : (ks ls : List (List Span)) → end_to_end (ks ++ ls) ≡ end_to_end ks ++ end_to_end ls
end_to_end-append [] ls = refl
end_to_end-append (k ∷ ks) ls = ap (λ xs. k ++ xs) (end_to_end-append ks ls) ∙ sym (append_assoc k _ _)

pub around : (ls : List (List Span)) (p : ℕ) → p < length ls → end_to_end ls ≡ end_to_end (take p ls) ++ (get_or ls p [] ++ end_to_end (drop (p + 1) ls))
around ls p h = ap end_to_end (sym (take-append-drop p ls)) ∙ rw (end_to_end-append, drop_more ls p [] h) refl

-- a list that is cut in two leaves the whole as it was
pub cut_suc : (ls : List (List Span)) (p n : ℕ) (lower upper : List Span) → p < length ls → upper ≡ drop n (get_or ls p [])
    → lower ≡ take n (get_or (insert ls (suc p) upper) p [])
    → end_to_end (set (insert ls (suc p) upper) p lower) ≡ end_to_end ls
cut_suc [] p n lower upper h up low = absurd (omega arith)
cut_suc (l ∷ ls) zero n lower upper h up low = rw (low, up) (sym (append_assoc (take n l) (drop n l) (end_to_end ls))
    ∙ ap (λ xs. xs ++ end_to_end ls) (take-append-drop n l))
cut_suc (l ∷ ls) (suc p) n lower upper h up low = ap (λ xs. l ++ xs) (cut_suc ls p n lower upper (omega arith) up low)

-- ---- no list is empty

abbrev Filled : Vec Span Global → Type 0
Filled v = 0 < length v.items

pub all_filled : (vs : List (Vec Span Global)) → AllFilled (lists_in vs) → All Filled vs
all_filled [] f k d h = absurd (omega arith)
all_filled (v ∷ vs) f zero d h = f.0
all_filled (v ∷ vs) f (suc k) d h = all_filled vs f.1 k d (omega arith)

filled_all : (vs : List (Vec Span Global)) → All Filled vs → AllFilled (lists_in vs)
filled_all [] all = tt
filled_all (v ∷ vs) all = (all 0 v (omega arith), filled_all vs (λ k d h. all (suc k) d (omega arith)))

pub filled_vector : (vs : List (Vec Span Global)) (i : ℕ) (v : Vec Span Global) → AllFilled (lists_in vs) → i < length vs → v ≡ get_or vs i v
    → 0 < length v.items
filled_vector vs i v f h at = rw at (all_filled vs f i v h)

module _ (vs : List (Vec Span Global)) (p : ℕ) (f : AllFilled (lists_in vs)) where
  pub filled_set : (old new : Vec Span Global) → p < length vs → old ≡ get_or vs p old → (0 < length old.items → 0 < length new.items)
      → AllFilled (lists_in (set vs p new))
  filled_set old new h at some = filled_all _ (All-set Filled vs p new (some (filled_vector vs p old f h at)) (all_filled vs f))

  pub filled_remove : AllFilled (lists_in (remove vs p))
  filled_remove = filled_all _ (All-append Filled _ _ (All-take Filled p vs (all_filled vs f)) (All-drop Filled (suc p) vs (all_filled vs f)))

-- ---- vectors, and the lists in them

pub lists_in-length : (vs : List (Vec Span Global)) → length (lists_in vs) ≡ length vs
lists_in-length vs = length-map vs (λ (v : Vec Span Global). v.items)

pub lists_in-set : (vs : List (Vec Span Global)) (p : ℕ) (v : Vec Span Global) → lists_in (set vs p v) ≡ set (lists_in vs) p v.items
lists_in-set vs p v = map-set (λ (w : Vec Span Global). w.items) vs p v

pub inserted : (first : List Span) (vs ws : List (Vec Span Global)) (p : ℕ) (v : Vec Span Global) → ws ≡ insert vs p v
    → first ∷ lists_in ws ≡ insert (first ∷ lists_in vs) (suc p) v.items
inserted first vs ws p v is = grind (arith, map-append, take-map, drop-map)

pub lists_in-get : (vs : List (Vec Span Global)) (p : ℕ) (d : Vec Span Global) → p < length vs → get_or (lists_in vs) p [] ≡ (get_or vs p d).items
lists_in-get vs p d h = get_or-map (λ (v : Vec Span Global). v.items) vs p d [] h

pub lists_in-at : (vs : List (Vec Span Global)) (p : ℕ) (v : Vec Span Global) → p < length vs → v ≡ get_or vs p v → get_or (lists_in vs) p [] ≡ v.items
lists_in-at vs p v h at = lists_in-get vs p v h ∙ ap (λ (w : Vec Span Global). w.items) (sym at)

-- the list at a place is canonical
pub canonical_list : (ls : List (List Span)) (p : ℕ) → p < length ls → IsCanonical 0 (end_to_end ls) → IsCanonical 0 (get_or ls p [])
canonical_list ls p h c = (canonical_parts 0 _ _ (canonical_parts 0 (end_to_end (take p ls)) _ (rw (around ls p h) at c)).1).0

-- ---- the place of a frame

begins_from : (low : ℕ) (ls : List (List Span)) → AllFilled ls → IsCanonical low (end_to_end ls) → (k : ℕ) → k < length ls → low ≤ begin_of (get_or ls k [])
begins_from low ((s ∷ l) ∷ ls) f c zero h = c.0
begins_from low ((s ∷ l) ∷ ls) f c (suc k) h = begins_from low ls f.1 (canonical_parts low (s ∷ l) (end_to_end ls) c).1 k (omega arith)
begins_from low ls f c k h = absurd (omega arith)

pub begins_rise : (low : ℕ) (ls : List (List Span)) → AllFilled ls → IsCanonical low (end_to_end ls) → (i j : ℕ) → i ≤ j → j < length ls
    → begin_of (get_or ls i []) ≤ begin_of (get_or ls j [])
begins_rise low ((s ∷ l) ∷ ls) f c zero j le h = begins_from s.first ((s ∷ l) ∷ ls) f (omega arith, c.1, c.2) j h
begins_rise low ((s ∷ l) ∷ ls) f c (suc i) (suc j) le h =
    begins_rise low ls f.1 (canonical_parts low (s ∷ l) (end_to_end ls) c).1 i j (omega arith) (omega arith)
begins_rise low ls f c i j le h = absurd (omega arith)

end_before : (f low : ℕ) (us : List Span) (t : Span) (bs : List Span) → IsCanonical low (us ++ (t ∷ bs)) → t.first ≤ f → All (EndsBefore (f - 1)) us × (low ≤ f)
end_before f low [] t bs c le = (All-nil _, omega arith)
end_before f low (s ∷ us) t bs c le = let later = end_before f (s.last + 2) us t bs c.2 le in
    (All-cons (EndsBefore (f - 1)) s us (omega arith) later.0, omega arith)

place_parts : (f low : ℕ) (first : List Span) (ls : List (List Span)) (n : ℕ) → AllFilled ls → IsCanonical low (first ++ end_to_end ls) → n ≤ length ls
    → ((k : ℕ) → k < n → begin_of (get_or ls k []) ≤ f) → (n < length ls → f < begin_of (get_or ls n []))
    → All (EndsBefore (f - 1)) (end_to_end (take n (first ∷ ls))) × IsCanonical (f + 1) (end_to_end (drop n ls))
place_parts f low first [] zero filled c fits below above = (All-nil _, tt)
place_parts f low first ((s ∷ l) ∷ ls) zero filled c fits below above =
    let behind = (canonical_parts low first ((s ∷ l) ++ end_to_end ls) c).1 in
    (All-nil _, (omega (arith, above (omega arith)), behind.1, behind.2))
place_parts f low first ((s ∷ l) ∷ ls) (suc n) filled c fits below above =
    let behind = (canonical_parts low first ((s ∷ l) ++ end_to_end ls) c).1 in
    let later = place_parts f low (s ∷ l) ls n filled.1 behind (omega arith) (λ k h. below (suc k) (omega arith)) (λ h. above (omega arith)) in
    (All-append (EndsBefore (f - 1)) first _ (end_before f low first s (l ++ end_to_end ls) c (below 0 (omega arith))).0 later.0, later.1)
place_parts f low first ls n filled c fits below above = absurd (omega arith)

pub place_is : (f : ℕ) (first : List Span) (ls : List (List Span)) (n : ℕ) → AllFilled ls → IsCanonical 0 (first ++ end_to_end ls) → n ≤ length ls
    → ((k : ℕ) → k < n → begin_of (get_or ls k []) ≤ f) → (n < length ls → f < begin_of (get_or ls n [])) → IsListPlace f (first ∷ ls) n
place_is f first ls n filled c fits below above =
    let parts = place_parts f 0 first ls n filled c fits below above in
    record { fits = omega arith; before = parts.0; behind = rw (add-one n) parts.1 }

-- ---- what is covered, and one frame more

pub some_with_frame : (f : ℕ) (xs : List Span) → 0 < length (with_frame f xs)
some_with_frame f [] = omega arith
some_with_frame f (s ∷ []) = grind (arith, nat_tests)
some_with_frame f (s ∷ t ∷ xs) = grind (arith, nat_tests)

glue-apart_from : (s : Span) (xs : List Span) → IsCanonical (s.last + 2) xs → glue s xs ≡ s ∷ xs
glue-apart_from s [] c = refl
glue-apart_from s (t ∷ xs) c = rw (lt-leb t.first (s.last + 1) (omega arith)) refl

meet-canonical : (s : Span) (ps bs : List Span) → IsCanonical (s.last + 2) (ps ++ bs) → meet (s ∷ ps) bs ≡ s ∷ (ps ++ bs)
meet-canonical s [] bs c = glue-apart_from s bs c
meet-canonical s (t ∷ ps) bs c = ap (λ ys. s ∷ ys) (meet-canonical t ps bs c.2)

meet-more : (s : Span) (xs bs : List Span) → 0 < length xs → meet (s ∷ xs) bs ≡ s ∷ meet xs bs
meet-more s xs bs some = grind arith

pub meet-nil : (xs : List Span) → meet xs [] ≡ xs
meet-nil [] = refl
meet-nil (s ∷ []) = refl
meet-nil (s ∷ t ∷ xs) = ap (λ ys. s ∷ ys) (meet-nil (t ∷ xs))

glue-meets : (s : Span) (last : ℕ) (ps bs : List Span) → IsCanonical (last + 2) (ps ++ bs) → s.last ≤ last + 1 → glue s (ps ++ bs) ≡ meet (glue s ps) bs
glue-meets s last [] bs c le = refl
glue-meets s last (t ∷ ps) bs c le =
    grind (arith, nat_tests, meet-canonical (record { first = s.first; last = t.last }) ps bs c.2, meet-canonical t ps bs c.2)

-- a frame that goes into the first of two lists
pub with_frame-meets : (f low : ℕ) (ps bs : List Span) → IsCanonical low (ps ++ bs) → IsCanonical (f + 1) bs
    → with_frame f (ps ++ bs) ≡ meet (with_frame f ps) bs
with_frame-meets f low [] [] c above = refl
with_frame-meets f low [] (q ∷ bs) c above = let glued = glue-apart_from (record { first = f; last = q.last }) bs above.2 in grind (arith, nat_tests)
with_frame-meets f low (s ∷ ps) bs c above =
    let more = meet-more s (with_frame f ps) bs (some_with_frame f ps) in
    grind (arith, nat_tests, more, with_frame-meets f (s.last + 2) ps bs c.2 above, meet-canonical s ps bs c.2, glue-meets (grown f s) s.last ps bs c.2)

-- the whole with a frame, where it goes into the list at a place
pub with_frame-at : (f : ℕ) (ls : List (List Span)) (p : ℕ) → IsCanonical 0 (end_to_end ls) → IsListPlace f ls p
    → with_frame f (end_to_end ls) ≡ end_to_end (take p ls) ++ meet (with_frame f (get_or ls p [])) (end_to_end (drop (p + 1) ls))
with_frame-at f ls p c place =
    let behind = (canonical_parts 0 (end_to_end (take p ls)) _ (rw (around ls p place.fits) at c)).1 in
    let past = with_frame-past f (end_to_end (take p ls)) (get_or ls p [] ++ end_to_end (drop (p + 1) ls)) place.before in
    grind (arith, around ls p place.fits, past, with_frame-meets f 0 (get_or ls p []) _ behind place.behind)

-- ---- where two lists meet

-- the last span of the one list and the first of the other touch, or they do not
pub meets : (ps ns spans : List Span) (n : ℕ) (d : Span) → length ps ≡ suc n → 0 < length ns
    → meet ps (ns ++ spans) ≡ cond (leb (get_or ns 0 d).first ((get_or ps n d).last + 1)) (ended_at (get_or ns 0 d).last ps ++ drop 1 (ns ++ spans))
    (ps ++ (ns ++ spans))
meets (s ∷ []) (q ∷ ns) spans zero d some more = refl
meets (s ∷ t ∷ ps) ns spans (suc n) d some more = let later = meets (t ∷ ps) ns spans n d (omega arith) more in grind arith
meets ps ns spans n d some more = absurd (omega arith)

-- ---- how many spans there can be

pub spans_fit : (low : ℕ) (xs : List Span) → IsCanonical low xs → low ≤ longest_day + 2 → low + 2 * length xs ≤ longest_day + 2
spans_fit low [] c le = omega arith
spans_fit low (s ∷ xs) c le = let later = spans_fit (s.last + 2) xs c.2 (omega arith) in omega arith

-- ---- one list changed, as calls do it

pub lists_set : (first : List Span) (vs : List (Vec Span Global)) (p i : ℕ) (old new : Vec Span Global) (change : List Span → List Span) → p ≡ suc i
    → i < length vs → old ≡ get_or vs i old
    → new.items ≡ change old.items → first ∷ lists_in (set vs i new) ≡ set (first ∷ lists_in vs) p (change (get_or (first ∷ lists_in vs) p []))
lists_set first vs p i old new change e h at is = rw (e, lists_in-set vs i new, is, ← lists_in-at vs i old h at) refl

pub length-ended_at : (n : ℕ) (xs : List Span) → length (ended_at n xs) ≡ length xs
length-ended_at n [] = refl
length-ended_at n (s ∷ []) = refl
length-ended_at n (s ∷ t ∷ xs) = ap suc (length-ended_at n (t ∷ xs))

pub ended_at-set : (n i : ℕ) (xs : List Span) (s : Span) → i + 1 ≡ length xs → s ≡ get_or xs i s
    → set xs i (record { first = s.first; last = n }) ≡ ended_at n xs
ended_at-set n zero (x ∷ []) s e at = rw at refl
ended_at-set n (suc i) (x ∷ y ∷ xs) s e at = ap (λ ys. x ∷ ys) (ended_at-set n i (y ∷ xs) s (omega arith) at)
ended_at-set n i xs s e at = absurd (omega arith)

-- ---- one list after the other

pub behind_more : (vs : List (Vec Span Global)) (i : ℕ) (v : Vec Span Global) → i < length vs → v ≡ get_or vs i v
    → end_to_end (drop i (lists_in vs)) ≡ v.items ++ end_to_end (drop (i + 1) (lists_in vs))
behind_more vs i v h at = rw (drop_more (lists_in vs) i [] (omega (arith, lists_in-length vs)), lists_in-at vs i v h at) refl

-- the next list copied
pub copied_more : (vs ws xs : List (Vec Span Global)) (i : ℕ) (v w : Vec Span Global) → lists_in ws ≡ take i (lists_in vs) → i < length vs → v ≡ get_or vs i v
    → w.items ≡ v.items → xs ≡ ws ++ w ∷ [] → lists_in xs ≡ take (i + 1) (lists_in vs)
copied_more vs ws xs i v w so_far h at same is =
    ap lists_in is ∙ map-append (λ (u : Vec Span Global). u.items) ws (w ∷ [])
    ∙ (rw (so_far, same, ← lists_in-at vs i v h at) (sym (take_more (lists_in vs) i [] (omega (arith, lists_in-length vs)))))

-- the first span of a list dropped, and the list with it where that was all
pub dropped : (first : List Span) (vs ws : List (Vec Span Global)) (i : ℕ) (v : Vec Span Global) (left : List (List Span)) → i < length vs → v ≡ get_or vs i v
    → 0 < length v.items
    → lists_in ws ≡ take i (lists_in vs) ++ (left ++ drop (i + 1) (lists_in vs)) → end_to_end left ≡ drop 1 v.items
    → first ++ end_to_end (lists_in ws) ≡ end_to_end (take (i + 1) (first ∷ lists_in vs)) ++ drop 1 (end_to_end (drop (i + 1) (first ∷ lists_in vs)))
dropped first vs ws i v left h at some is gone =
    rw (is, add-one i, behind_more vs i v h at, drop-append-le 1 v.items _ some, ← gone, end_to_end-append, end_to_end-append, add-one i)
    (sym (append_assoc first _ _))

-- ---- a frame added, and the list met by the next

module _ (f : ℕ) (ls changed : List (List Span)) (p : ℕ) (c : IsCanonical 0 (end_to_end ls)) (place : IsListPlace f ls p)
    (is : changed ≡ set ls p (with_frame f (get_or ls p []))) where
  pub canonical_changed : f < longest_day → IsCanonical 0 (get_or changed p [])
  canonical_changed h = rw (is, get_or-set_same ls p _ [] place.fits) (canonical_with 0 f _ (canonical_list ls p place.fits c) (omega arith) h)

  pub some_changed : 0 < length (get_or changed p [])
  some_changed = rw (is, get_or-set_same ls p _ [] place.fits) (some_with_frame f _)

  pub added_is : (final : List Span) → final ≡ end_to_end (take p changed) ++ meet (get_or changed p []) (end_to_end (drop (p + 1) changed))
      → final ≡ with_frame f (end_to_end ls)
  added_is final ends = ends ∙ rw (is, take-set, get_or-set_same ls p _ [] place.fits, drop-set-lt (p + 1) ls p _ (omega arith))
      (sym (with_frame-at f ls p c place))

-- ---- the whole, and the list at the place of a frame

pub covered_is : (f : ℕ) (ls : List (List Span)) (p : ℕ) → IsListPlace f ls p → is_covered f (end_to_end ls) ≡ is_covered f (get_or ls p [])
covered_is f ls p place =
    let rest = end_to_end (drop (p + 1) ls) in
    let past = covered_past f (f - 1) (end_to_end (take p ls)) (get_or ls p [] ++ rest) place.before in
    grind (arith, around ls p place.fits, past, list_any-append (in_span f) (get_or ls p []) rest, uncovered_below (f + 1) rest place.behind f)

-- ---- a list cut in halves

pub begun_still : (first : List Span) (vs : List (Vec Span Global)) (p : ℕ) → (0 < length vs → 0 < length first) → p ≤ length vs
    → 0 < length (get_or (first ∷ lists_in vs) p []) → 0 < length first
begun_still first vs p begun fits some = grind arith

pub filled_inserted : (done : Bool) (vs ws : List (Vec Span Global)) (p : ℕ) (v : Vec Span Global) → ws ≡ cond done (insert vs p v) vs → AllFilled (lists_in vs)
    → 0 < length v.items → AllFilled (lists_in ws)
filled_inserted done vs ws p v is f some =
    let more : AllFilled (lists_in (insert vs p v)) =
    filled_all _ (All-append Filled _ _ (All-take Filled p vs (all_filled vs f)) (All-cons Filled v _ some (All-drop Filled p vs (all_filled vs f)))) in
    grind arith

-- ---- whether there is one span

pub only_span-none : (first : List Span) (vs : List (Vec Span Global)) → AllFilled (lists_in vs) → (0 < length vs → 0 < length first)
    → (length first ≡ 1 → 0 < length vs)
    → None ≡ only_span (first ++ end_to_end (lists_in vs))
only_span-none [] [] filled begun more = refl
only_span-none (s ∷ []) (v ∷ vs) filled begun more = grind (arith, filled.0, length-append v.items (end_to_end (lists_in vs)))
only_span-none (s ∷ t ∷ xs) vs filled begun more = refl
only_span-none first vs filled begun more = absurd (omega arith)
