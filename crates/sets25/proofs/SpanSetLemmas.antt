-- What a `SpanSet` answers, from its list of spans.
use Rattle.sets25.proofs.Words.{[], ap, arith, Bool, contains-retain_nat, contains-times_where, day, eqb, false, false≢true, is_covered, IsCanonical, IsLeast, just, length, List}
use Rattle.sets25.proofs.Words.{list_any, map, MatchOption, nat_cmp, nat_cmp_total, nat_eq, nat_tests, None, not, only_span, Option, refl, slice_get, Some, SomeIff, Span}
use Rattle.sets25.proofs.Words.{span_count, sym, times_where, true, ℕ, ◌&&◌, ◌+◌, ◌-◌, ◌<◌, ◌||◌, ◌↔◌, ◌∙◌, ◌∷◌, ◌≡◌}
use Rattle.std.specs.FinSet as set
use Rattle.tc25.specs.declared.rate.Rate.{Rate}
use Rattle.sets25.specs.Spans.{AreSpansOfDay}
use Rattle.sets25.proofs.TimesLemmas.{empty_iff, just_iff, least_from, none_iff, same_times, two_iff}
use Rattle.sets25.proofs.CountLemmas.{span_firsts}
use Rattle.sets25.proofs.SpansLemmas.{covered_in_day, uncovered_below}

-- the test of a list of spans
abbrev pub in_spans : List Span → ℕ → Bool
in_spans xs f = is_covered f xs

module _ (rate : Rate) where
  pub is_empty_iff-spans : (xs : List Span) → IsCanonical 0 xs → AreSpansOfDay rate xs → (eqb (length xs) 0 ≡ true) ↔ (times_where rate (in_spans xs) ≡ set.empty)
  is_empty_iff-spans [] c of = empty_iff rate (in_spans []) true (λ _ f h. refl) (λ is. absurd (false≢true (sym is)))
  is_empty_iff-spans (s ∷ xs) c of =
      empty_iff rate (in_spans (s ∷ xs)) _ (λ is f h. grind (arith, nat_tests)) (λ _. (s.last, of.0, grind (arith, nat_tests)))

  -- whether there is one member
  pub only_one-spans : (xs : List Span) (s : Span) (r : Option ℕ) → IsCanonical 0 xs → AreSpansOfDay rate xs → Some s ≡ only_span xs → s.first ≡ s.last
      → SomeIff r (s.first < day rate) s.first
      → (t : ℕ) → (r ≡ Some t) ↔ (times_where rate (in_spans xs) ≡ just t)
  only_one-spans (x ∷ []) s r c of at same given =
      let e : s ≡ x = cc in
      let one : x.first ≡ x.last = rw e at same in
      just_iff rate (in_spans (x ∷ [])) x.first r (rw e at given) (omega (arith, of.0)) (λ f h. grind (arith, nat_tests))
  only_one-spans xs s r c of at same given = absurd (cc)

  pub only_wide : (xs : List Span) (s : Span) → IsCanonical 0 xs → AreSpansOfDay rate xs → Some s ≡ only_span xs → (s.first ≡ s.last → ⊥) → (t : ℕ)
      → (None ≡ Some t) ↔ (times_where rate (in_spans xs) ≡ just t)
  only_wide (x ∷ []) s c of at other =
      let e : s ≡ x = cc in
      two_iff rate (in_spans (x ∷ [])) x.first x.last (omega (arith, of.0)) of.0 (rw e at other) (grind (arith, nat_tests)) (grind (arith, nat_tests))
  only_wide xs s c of at other = absurd (cc)

  pub only_other-spans : (xs : List Span) → IsCanonical 0 xs → AreSpansOfDay rate xs → None ≡ only_span xs → (t : ℕ)
      → (None ≡ Some t) ↔ (times_where rate (in_spans xs) ≡ just t)
  only_other-spans [] c of none = none_iff rate (in_spans []) (λ f h. refl)
  only_other-spans (s ∷ []) c of none = absurd (cc)
  only_other-spans (s ∷ t ∷ xs) c of none =
      two_iff rate (in_spans (s ∷ t ∷ xs)) s.last t.last of.0 of.1.0 (λ e. omega arith) (grind (arith, nat_tests)) (grind (arith, nat_tests))

  -- the first member, if there is one
  pub least_some-spans : (xs : List Span) (s : Span) (r : Option ℕ) → IsCanonical 0 xs → AreSpansOfDay rate xs → Some s ≡ slice_get xs 0
      → SomeIff r (s.first < day rate) s.first
      → MatchOption r (times_where rate (in_spans xs) ≡ set.empty) (IsLeast (times_where rate (in_spans xs)))
  least_some-spans [] s r c of at given = absurd (cc)
  least_some-spans (x ∷ xs) s r c of at given =
      let e : s ≡ x = cc in
      least_from rate (in_spans (x ∷ xs)) x.first r (rw e at given) (omega (arith, of.0)) (grind (arith, nat_tests))
      (λ f h there. let above = uncovered_below x.first (x ∷ xs) (omega arith, c.1, c.2) f in grind arith)

-- ---- the number of spans

abbrev firsts : List Span → List ℕ
firsts xs = map (λ (s : Span). s.first) xs

-- whether a span of the list begins at f
abbrev begins_at : ℕ → List Span → Bool
begins_at f xs = list_any (λ y. nat_eq y f) (firsts xs)

no_begin_below : (low : ℕ) (xs : List Span) → IsCanonical low xs → (f : ℕ) → f < low → begins_at f xs ≡ false
no_begin_below low [] c f h = refl
no_begin_below low (s ∷ xs) c f h = let later = no_begin_below (s.last + 2) xs c.2 f in grind (arith, nat_tests)

-- a frame begins a span where it is covered and the one before is not
begins_is : (low : ℕ) (xs : List Span) → IsCanonical low xs → (f : ℕ) → (is_covered f xs && (eqb f 0 || not (is_covered (f - 1) xs))) ≡ begins_at f xs
begins_is low [] c f = refl
begins_is low (s ∷ xs) c f =
    grind (
      arith,
      nat_tests,
      uncovered_below (s.last + 2) xs c.2 f,
      uncovered_below (s.last + 2) xs c.2 (f - 1),
      no_begin_below (s.last + 2) xs c.2 f,
      begins_is
          (s.last + 2) xs c.2 f,
    )

len_firsts : (low : ℕ) (xs : List Span) → IsCanonical low xs → set.len (set.from_list {R = nat_cmp} (firsts xs)) ≡ length xs
len_firsts low [] c = set.len-empty nat_cmp
len_firsts low (s ∷ xs) c =
    grind (
      arith,
      set.len-insert nat_cmp_total,
      set.contains-from_list_nat (firsts xs) s.first,
      no_begin_below (s.last + 2) xs c.2 s.first,
      len_firsts
          (s.last + 2) xs c.2,
    )

module _ (rate : Rate) where
  contains-spans : (xs : List Span) → AreSpansOfDay rate xs → (f : ℕ) → set.contains (times_where rate (in_spans xs)) f ≡ is_covered f xs
  contains-spans xs of f = contains-times_where rate (in_spans xs) f ∙ (let in_day = covered_in_day rate xs of f in grind (arith, nat_tests))

  pub span_count-spans : (xs : List Span) → IsCanonical 0 xs → AreSpansOfDay rate xs → span_count (times_where rate (in_spans xs)) ≡ length xs
  unfolding span_count
  span_count-spans xs c of =
      ap set.len (same_times (span_firsts rate (times_where rate (in_spans xs))) (set.from_list (firsts xs)) (λ f.
      grind (arith, contains-retain_nat, contains-spans xs of, begins_is 0 xs c f, set.contains-from_list_nat (firsts xs))))
      ∙ len_firsts 0 xs c
