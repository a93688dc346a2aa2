-- Eight decimal digits, side by side: they are told apart and summed as the lanes of a vector.
use Rattle.capture9.proofs.Words.{[], agree_below_at, all_ascii_digits, and_parts, ap, arith, bitmask_splat, cond, decimal_value, digit_value, Each1, Each1-zip2}
use Rattle.capture9.proofs.Words.{Each2-all, false, Fits, fold_l, get_or, is_ascii_digit, length, length-map, List, ltb, map, mask_l, nat_tests, refl, replicate}
use Rattle.capture9.proofs.Words.{suc, top, true, w32, w8, zip2, zip2_splat, ℕ, ◌%◌, ◌*◌, ◌+◌, ◌-◌, ◌<◌, ◌^◌, ◌∙◌, ◌∷◌, ◌≡◌, ◌≤◌}
use Rattle.capture9.proofs.FieldLemmas.{digit_value-digit}

-- a byte with the `0` taken away
abbrev lowered : ℕ → ℕ
lowered c = (c + (256 - 48)) % 256

abbrev lowered_all : List ℕ → List ℕ
lowered_all xs = zip2 (λ a b. (a + (256 - b)) % 256) xs (replicate 8 48)

is-lowered : (xs : List ℕ) → length xs ≡ 8 → lowered_all xs ≡ map lowered xs
is-lowered xs size = zip2_splat {Y = ℕ} (λ a b. (a + (256 - b)) % 256) xs 8 48 size

flag : (c : ℕ) → c < 256 → ltb (lowered c) 10 ≡ is_ascii_digit c
flag c h = agree_below_at (λ x. ltb (lowered x) 10) is_ascii_digit 256 c refl h

flags : (xs : List ℕ) → ((i : ℕ) → get_or xs i 0 < 256) → map (λ x. ltb x 10) (map lowered xs) ≡ map is_ascii_digit xs
flags [] fits = refl
flags (c ∷ cs) fits = rw (flag c (fits 0), flags cs (λ i. fits (suc i))) refl

-- a bit for each digit, and all of them
mask-all : (xs : List ℕ) → all_ascii_digits xs ≡ true → mask_l (map is_ascii_digit xs) + 1 ≡ 2 ^ length xs
mask-all [] all = refl
mask-all (c ∷ cs) all = grind (arith, mask-all cs)

all-mask : (xs : List ℕ) → mask_l (map is_ascii_digit xs) + 1 ≡ 2 ^ length xs → all_ascii_digits xs ≡ true
all-mask [] all = refl
all-mask (c ∷ cs) all = grind (arith, all-mask cs)

abbrev mask_of : List ℕ → ℕ
mask_of xs = mask_l (map (top 7) (zip2 (λ a b. cond (ltb a b) 255 0) (lowered_all xs) (replicate 8 10))) % 2 ^ 64

mask-is : (xs : List ℕ) → length xs ≡ 8 → ((i : ℕ) → get_or xs i 0 < 256) → mask_of xs ≡ mask_l (map is_ascii_digit xs)
mask-is xs size fits =
    ap (λ ys. mask_l (map (top 7) (zip2 (λ a b. cond (ltb a b) 255 0) ys (replicate 8 10))) % 2 ^ 64) (is-lowered xs size)
    ∙ bitmask_splat w8 ltb (map lowered xs) 8 10 (omega (arith, length-map xs lowered)) (omega arith) ∙ ap mask_l (flags xs fits)

pub all-set : (xs : List ℕ) → length xs ≡ 8 → ((i : ℕ) → get_or xs i 0 < 256) → mask_of xs ≡ 255 → all_ascii_digits xs ≡ true
all-set xs size fits e = all-mask xs (rw size (omega (arith, mask-is xs size fits)))

pub not-set : (xs : List ℕ) → length xs ≡ 8 → ((i : ℕ) → get_or xs i 0 < 256) → (mask_of xs ≡ 255 → ⊥) → all_ascii_digits xs ≡ false
not-set xs size fits e = grind (arith, mask-all xs, mask-is xs size fits)

-- a lowered byte fits wider lanes
pub lowered-fit : (xs ys : List ℕ) → Each1 (Fits w32) (zip2 (λ a b. (a + (256 - b)) % 256) xs ys)
lowered-fit xs ys = Each1-zip2 _ (Fits w32) xs ys (Each2-all _ (λ a b. record { fits = omega arith }) xs ys)

-- ---- what the digits come to

lowered-digit : (c : ℕ) → is_ascii_digit c ≡ true → (lowered c ≡ digit_value c) × (digit_value c ≤ 9)
lowered-digit c h = grind (arith, nat_tests, digit_value-digit c h)

abbrev sum_of : List ℕ → ℕ
sum_of lanes =
    fold_l (λ a b. (a + b) % 2 ^ 32) 0
    (zip2 (λ a b. a * b % 2 ^ 32) (map (λ a. a) lanes) (10000000 ∷ 1000000 ∷ 100000 ∷ 10000 ∷ 1000 ∷ 100 ∷ 10 ∷ 1 ∷ []))

sum-is : (a b c d e f g h : ℕ) → a ≤ 9 → b ≤ 9 → c ≤ 9 → d ≤ 9 → e ≤ 9 → f ≤ 9 → g ≤ 9 → h ≤ 9
    → sum_of (a ∷ b ∷ c ∷ d ∷ e ∷ f ∷ g ∷ h ∷ []) ≡ a * 10000000 + b * 1000000 + c * 100000 + d * 10000 + e * 1000 + f * 100 + g * 10 + h
sum-is a b c d e f g h i j k l m n o p = omega arith

digit-lanes : (xs : List ℕ) → all_ascii_digits xs ≡ true → (map lowered xs ≡ map digit_value xs) × Each1 (λ d. d ≤ 9) (map digit_value xs)
digit-lanes [] all = (refl, tt)
digit-lanes (c ∷ cs) all =
    let parts = and_parts (is_ascii_digit c) (all_ascii_digits cs) all in
    let here = lowered-digit c parts.0 in
    let rest = digit-lanes cs parts.1 in
    (rw (here.0, rest.0) refl, (here.1, rest.1))

pub sum-digits : (xs : List ℕ) → length xs ≡ 8 → all_ascii_digits xs ≡ true → sum_of (lowered_all xs) ≡ decimal_value xs
sum-digits (a ∷ b ∷ c ∷ d ∷ e ∷ f ∷ g ∷ h ∷ []) size all =
    let lanes = digit-lanes (a ∷ b ∷ c ∷ d ∷ e ∷ f ∷ g ∷ h ∷ []) all in
    ap sum_of (is-lowered (a ∷ b ∷ c ∷ d ∷ e ∷ f ∷ g ∷ h ∷ []) size ∙ lanes.0)
    ∙ sum-is _ _ _ _ _ _ _ _ lanes.1.0 lanes.1.1.0 lanes.1.1.1.0 lanes.1.1.1.1.0 lanes.1.1.1.1.1.0 lanes.1.1.1.1.1.1.0 lanes.1.1.1.1.1.1.1.0 lanes.1.1.1.1.1.1.1.1.0
    ∙ omega arith
sum-digits xs size all = absurd (omega arith)
