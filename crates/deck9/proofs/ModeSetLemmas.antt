-- Sets of modes, one bit at a time; some mode of a set, and one mode alone.
use Rattle.deck9.proofs.Words.{[], and-true, and_from, and_mask, and_parts, and_pow, ap, arith, bit_and, bit_at, bit_at-lt, bit_at-pow_other, bit_at-pow_same, bit_at-zero}
use Rattle.deck9.proofs.Words.{bit_at_and, bit_at_or, bit_of, bit_or, Bool, both_ways, cases_Bool, cases_eq, Cued, Eject, eq-eqb, eqb-true, false, false_from_ne_true, false≢true}
use Rattle.deck9.proofs.Words.{every_mode, FastForward, has, index_of, inl, inr, is_mode, is_one_of, is_some, Jog, List, list_all, list_any, mod-lt, Mode, ModeSet, nat_tests, not, of_modes, or-true}
use Rattle.deck9.proofs.Words.{or_cases, Play, pow_pos, Rec, refl, Rewind, same_from_bits_below, same_test, Shuttle, Stop, subst, sym, true, true_from_ne_false, Var, ℕ, ◌&&◌}
use Rattle.deck9.proofs.Words.{◌*◌, ◌<◌, ◌==◌, ◌^◌, ◌||◌, ◌∙◌, ◌∷◌, ◌≡◌, ◌≢◌, ◌⊎◌}
use Rattle.deck9.proofs.ModeLemmas.{index-mode_of, is_mode-same, mode_of, same_mode}

scaled : (b k : ℕ) → b < 2 → (b * 2 ^ k == 2 ^ k) ≡ (b == 1)
scaled b k h = grind (arith, nat_tests, pow_pos k)

-- a set has a mode where its bit is 1
pub has-bit : (set : ℕ) (m : Mode) → has set m ≡ (bit_at set (index_of m) == 1)
has-bit set m = ap (λ x. x == bit_of m) (and_pow set (index_of m)) ∙ scaled (bit_at set (index_of m)) (index_of m) (bit_at-lt set (index_of m))

pub has-or : (a b : ℕ) (m : Mode) → has (bit_or a b) m ≡ (has a m || has b m)
has-or a b m = let k = index_of m in rw (has-bit (bit_or a b) m, has-bit a m, has-bit b m, bit_at_or a b k)
    (grind (arith, nat_tests, bit_at-lt a k, bit_at-lt b k))

pub has-and : (a b : ℕ) (m : Mode) → has (bit_and a b) m ≡ (has a m && has b m)
has-and a b m = let k = index_of m in rw (has-bit (bit_and a b) m, has-bit a m, has-bit b m, bit_at_and a b k)
    (grind (arith, nat_tests, bit_at-lt a k, bit_at-lt b k))

-- ---- one mode

-- the bit of a mode is its own
pub just_mode : (g m : Mode) → has (bit_of g) m ≡ true → m ≡ g
just_mode g m h = elim (cases_eq (index_of m) (index_of g)) [
  | inl same ↦ same_mode m g same
  | inr other ↦ absurd (false≢true (sym (has-bit (bit_of g) m ∙ ap (λ b. b == 1) (bit_at-pow_other (index_of g) (index_of m) other)) ∙ h))
]

pub mode_just : (m : Mode) → has (bit_of m) m ≡ true
mode_just m = has-bit (bit_of m) m ∙ ap (λ b. b == 1) (bit_at-pow_same (index_of m))

pub mode_self : (m : Mode) → is_mode m m ≡ true
mode_self m = eq-eqb (index_of m) (index_of m) refl

pub just_has : (m n : Mode) → has (bit_of m) n ≡ is_mode n m
just_has m n = same_test (has (bit_of m) n) (is_mode n m)
    (λ h. subst (λ k. is_mode k m ≡ true) (sym (just_mode m n h)) (mode_self m))
    (λ h. subst (λ k. has (bit_of m) k ≡ true) (sym (is_mode-same n m h)) (mode_just m))

pub all_has : (m : Mode) → has 1023 m ≡ true
all_has Stop = refl
all_has _ = refl

pub nothing_has : (m : Mode) → has 0 m ≡ false
nothing_has m = has-bit 0 m ∙ ap (λ b. b == 1) (bit_at-zero (index_of m))

-- a set of modes, one at a time
pub of_modes_has : (ms : List Mode) (m : Mode) → has (of_modes ms).0 m ≡ is_one_of ms m
of_modes_has [] m = nothing_has m
of_modes_has (x ∷ ms) m = has-or (bit_of x) (of_modes ms).0 m ∙ ap (λ b. b || has (of_modes ms).0 m) (just_has x m)
    ∙ ap (λ b. is_mode m x || b) (of_modes_has ms m)

-- ---- some mode

pub find_mode : (f : Mode → Bool) (ms : List Mode) → list_any f ms ≡ true → (m : Mode) × (f m ≡ true)
find_mode f [] h = absurd (false≢true h)
find_mode f (m ∷ ms) h = elim (or_cases (f m) (list_any f ms) h) [ inl here ↦ (m, here) | inr rest ↦ find_mode f ms rest ]

pub any_mode : (f : Mode → Bool) (m : Mode) → f m ≡ true → list_any f every_mode ≡ true
any_mode f Stop h = simp h
any_mode f _ h = simp (h, or-true)

pub some_or_none : (f : Mode → Bool) → ((m : Mode) × (f m ≡ true)) ⊎ ((m : Mode) → f m ≡ false)
some_or_none f = elim (cases_Bool (list_any f every_mode)) [
  | inl some ↦ inl (find_mode f every_mode some)
  | inr none ↦ inr (λ m. false_from_ne_true (f m) (λ h. both_ways (list_any f every_mode) none (any_mode f m h)))
]

pub ten_bits : (n : ℕ) → bit_and n 1023 < 1024
ten_bits n = rw (and_mask n 10) (mod-lt n (pow_pos 10))

-- the ten bits alone
pub has_ten : (s : ℕ) (n : Mode) → has (bit_and s 0x3FF) n ≡ has s n
has_ten s n = has-and s 0x3FF n ∙ ap (λ b. has s n && b) (all_has n) ∙ and-true (has s n)

same_bit : (a b : ℕ) → a < 2 → b < 2 → (a == 1) ≡ (b == 1) → a ≡ b
same_bit a b p q h = grind (arith, nat_tests)

-- ten bits are told apart by their modes
pub same_modes : (a b : ℕ) → a < 1024 → b < 1024 → ((m : Mode) → has a m ≡ has b m) → a ≡ b
same_modes a b p q same = same_from_bits_below 10 a b p q (λ i h. same_bit (bit_at a i) (bit_at b i) (bit_at-lt a i) (bit_at-lt b i)
    (subst (λ k. (bit_at a k == 1) ≡ (bit_at b k == 1)) (index-mode_of i h) (sym (has-bit a (mode_of i)) ∙ same (mode_of i) ∙ has-bit b (mode_of i))))

pub some_mode : (s : ModeSet) → is_some s ≡ true → (m : Mode) × (has s.0 m ≡ true)
some_mode s h = elim (some_or_none (has s.0)) [
  | inl w ↦ w
  | inr none ↦ let no : bit_and s.0 1023 ≡ 0 = same_modes (bit_and s.0 1023) 0 (ten_bits s.0) (pow_pos 10) (λ m. has_ten s.0 m ∙ none m ∙ sym (nothing_has m)) in
      absurd (false≢true (ap (λ n. not (n == 0)) (sym no) ∙ h))
]

pub mode_some : (s : ModeSet) (m : Mode) → has s.0 m ≡ true → is_some s ≡ true
mode_some s m h = elim (cases_eq (bit_and s.0 1023) 0) [
  | inl none ↦ absurd (false≢true (sym (nothing_has m) ∙ ap (λ n. has n m) (sym none) ∙ has-and s.0 1023 m ∙ rw (h, all_has m) refl))
  | inr some ↦ grind (arith, nat_tests)
]

pub some_any : (s : ModeSet) → is_some s ≡ list_any (has s.0) every_mode
some_any s = same_test (is_some s) (list_any (has s.0) every_mode) (λ h. let w = some_mode s h in any_mode (has s.0) w.0 w.1)
    (λ h. let w = find_mode (has s.0) every_mode h in mode_some s w.0 w.1)

-- ---- every mode

every_has : (f : Mode → Bool) → list_all f every_mode ≡ true → (m : Mode) → f m ≡ true
every_has f h Stop = grind (arith, h)
every_has f h _ = grind (arith, h)

has_every : (f : Mode → Bool) → ((m : Mode) → f m ≡ true) → list_all f every_mode ≡ true
has_every f h = rw (h Stop, h Play, h Rec, h FastForward, h Rewind, h Shuttle, h Jog, h Var, h Cued, h Eject) refl

-- a set has every mode where its ten bits are set
pub all_every : (s : ℕ) → (bit_and s 0x3FF == 0x3FF) ≡ list_all (has s) every_mode
all_every s = same_test (bit_and s 0x3FF == 0x3FF) (list_all (has s) every_mode)
    (λ h. has_every (has s) (λ m. sym (has_ten s m) ∙ ap (λ b. has b m) (eqb-true (bit_and s 0x3FF) 0x3FF h) ∙ all_has m))
    (λ h. eq-eqb (bit_and s 0x3FF) 0x3FF (same_modes (bit_and s 0x3FF) 0x3FF (ten_bits s) (omega arith) (λ m. has_ten s m ∙ every_has (has s) h m ∙ sym (all_has m))))

-- ---- one mode alone

bit_of-lt : (m : Mode) → bit_of m < 1024
bit_of-lt Stop = omega arith
bit_of-lt _ = omega arith

-- a set that has a mode and no other is that one bit
alone : (s : ModeSet) (m : Mode) → has s.0 m ≡ true → ((n : Mode) → (has s.0 n && not (is_mode n m)) ≡ false) → bit_and s.0 0x3FF ≡ bit_of m
alone s m there others = same_modes (bit_and s.0 0x3FF) (bit_of m) (ten_bits s.0) (bit_of-lt m) (λ n. has_ten s.0 n ∙ same n ∙ sym (just_has m n))
  where
    same : (n : Mode) → has s.0 n ≡ is_mode n m
    same n = same_test (has s.0 n) (is_mode n m) (λ h. true_from_ne_false _ (λ e. both_ways _ (others n) (and_from _ _ h (ap not e))))
        (λ e. subst (λ k. has s.0 k ≡ true) (sym (is_mode-same n m e)) there)

-- a set with nine modes missing has the tenth
pub last_mode : (s : ModeSet) (m : Mode) → has s.0 m ≡ true → has s.0 Stop ≡ false → has s.0 Play ≡ false → has s.0 Rec ≡ false → has s.0 FastForward ≡ false
    → has s.0 Rewind ≡ false
    → has s.0 Shuttle ≡ false → has s.0 Jog ≡ false → has s.0 Var ≡ false → has s.0 Cued ≡ false → has s.0 Eject ≡ true
last_mode s Eject t a b c d e f g h i = t
last_mode s _ t a b c d e f g h i = cc

pub two_modes : (s : ModeSet) (m : Mode) → has s.0 m ≡ true → (bit_and s.0 0x3FF ≡ bit_of m → ⊥)
    → (m n : Mode) × (has s.0 m ≡ true) × (has s.0 n ≡ true) × (m ≢ n)
two_modes s m there not_one =
    elim (some_or_none (λ n. has s.0 n && not (is_mode n m))) [
      | inl w ↦ let both = and_parts (has s.0 w.0) (not (is_mode w.0 m)) w.1 in (m, w.0, there, both.0, other w.0 both.1)
      | inr none ↦ absurd (not_one (alone s m there none))
    ]
  where
    other : (n : Mode) → not (is_mode n m) ≡ true → m ≢ n
    other n h e = false≢true (sym (ap not (subst (λ k. is_mode k m ≡ true) e (mode_self m))) ∙ h)
