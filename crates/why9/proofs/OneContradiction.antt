-- One choice of contradicting replies alone is nearest to the break.
use Rattle.why9.proofs.Words.{[], AllPairs, arith, believing_fewer, Bool, Contradict, Exchange, false, Profile, HasBelieving, is_among, IsContradiction}
use Rattle.why9.proofs.Words.{List, nat_lt, nat_tests, not, refl, suc, true, ℕ, ◌&&◌, ◌<◌, ◌==◌, ◌||◌, ◌∷◌, ◌≡◌}
use Rattle.why9.proofs.SearchLemmas.{among_all}

-- the others of an ascending list are after its first
behind_first_of : (p : ℕ) (ps : List ℕ) → AllPairs (λ p q. p < q) (p ∷ ps) → (k : ℕ) → is_among ps k ≡ true → p < k
behind_first_of p ps ascend k is = among_all (λ q. p < q) ps k (λ i d l. ascend 0 (suc i) d (omega arith) (omega arith)) is

rest_ascends : (p : ℕ) (ps : List ℕ) → AllPairs (λ p q. p < q) (p ∷ ps) → AllPairs (λ p q. p < q) ps
rest_ascends p ps ascend i j d l m = ascend (suc i) (suc j) d (omega arith) (omega arith)

-- replies at places of `before`, and at these, contradict; and each of these is needed, and as late as it can be
record IsNearest (profile : Profile) (es : List Exchange) (before : ℕ → Bool) (ps : List ℕ) : Type 0 where
  ascend : AllPairs (λ p q. p < q) ps
  contradict : Contradict profile (λ k. before k || is_among ps k) es
  needed : (p : ℕ) → is_among ps p ≡ true → HasBelieving profile (λ k. nat_lt p k || (before k || (is_among ps k && not (k == p)))) es

-- where one begins before the other, it is needless there
no_earlier : (profile : Profile) (es : List Exchange) (before : ℕ → Bool) (p q : ℕ) (ps qs : List ℕ) → IsNearest profile es before (p ∷ ps) → IsNearest profile es before (q ∷ qs)
    → ¬ (p < q)
no_earlier profile es before p q ps qs a b l = b.contradict (believing_fewer profile _ _ es (λ k e. let after = behind_first_of q qs b.ascend k in grind (arith, nat_tests))
    (a.needed p (grind (arith, nat_tests))))

one_more : (profile : Profile) (es : List Exchange) (before : ℕ → Bool) (p : ℕ) (ps : List ℕ) → IsNearest profile es before (p ∷ ps)
    → IsNearest profile es (λ k. before k || (p == k)) ps
one_more profile es before p ps a = record {
  ascend = rest_ascends p ps a.ascend;
  contradict = λ w. a.contradict (believing_fewer profile _ _ es (λ k e. grind (arith, nat_tests)) w);
  needed = λ q is. believing_fewer profile _ _ es (λ k e. let after = behind_first_of p ps a.ascend q is in grind (arith, nat_tests))
      (a.needed q (grind (arith, nat_tests)));
}

same : (profile : Profile) (es : List Exchange) (before : ℕ → Bool) (ps qs : List ℕ) → IsNearest profile es before ps → IsNearest profile es before qs → ps ≡ qs
same profile es before [] [] a b = refl
same profile es before [] (q ∷ qs) a b = absurd (a.contradict (believing_fewer profile _ _ es (λ k e. grind (arith, nat_tests)) (b.needed q (grind (arith, nat_tests)))))
same profile es before (p ∷ ps) [] a b = absurd (b.contradict (believing_fewer profile _ _ es (λ k e. grind (arith, nat_tests)) (a.needed p (grind (arith, nat_tests)))))
same profile es before (p ∷ ps) (q ∷ qs) a b =
    let no = no_earlier profile es before p q ps qs a b in
    let nor = no_earlier profile es before q p qs ps b a in
    let here : p ≡ q = grind arith in
    rest here (same profile es (λ k. before k || (p == k)) ps qs (one_more profile es before p ps a))
  where
    rest : p ≡ q → (IsNearest profile es (λ k. before k || (p == k)) qs → ps ≡ qs) → p ∷ ps ≡ q ∷ qs
    rest here more = let after : IsNearest profile es (λ k. before k || (q == k)) qs = one_more profile es before q qs b in cc (here, more (rw here after))

pub one_contradiction : (profile : Profile) (es : List Exchange) (places others : List ℕ) → IsContradiction profile es places → IsContradiction profile es others → places ≡ others
one_contradiction profile es places others a b = same profile es (λ k. false) places others (nearest places a) (nearest others b)
  where
    nearest : (ps : List ℕ) → IsContradiction profile es ps → IsNearest profile es (λ k. false) ps
    nearest ps c = record { ascend = c.ascend; contradict = c.contradict; needed = c.needed }
