-- Decimal digits, read one at a time, and the three fields of a CSV record by their places.
use Rattle.capture9.proofs.Words.{[], all_ascii_digits, ap, arith, decimal_value, digit_value, digits_after, digits_value_short, field_at}
use Rattle.capture9.proofs.Words.{is_ascii_digit, IsNumeralModel, length, length-append, List, lit<, mul-le-mul_left, mul-le-mul_right, nat_tests, None, numerals_by_weight}
use Rattle.capture9.proofs.Words.{pow-add, pow-le-pow_right, pow-suc, refl, Some, suc, tells_all_ascii_digits, time_in, true, zero, ℕ, ◌&&◌, ◌*◌, ◌++◌, ◌+◌, ◌-◌, ◌<◌, ◌^◌, ◌∙◌}
use Rattle.capture9.proofs.Words.{◌∷◌, ◌≡◌, ◌≢◌, ◌≤◌}

-- what a decimal digit counts
pub digit_value-digit : (c : ℕ) → is_ascii_digit c ≡ true → digit_value c ≡ c - 48
digit_value-digit c h = grind (arith, nat_tests)

-- decimal digits and their value are std's
pub numerals : IsNumeralModel (λ ds. all_ascii_digits ds ≡ true) decimal_value
numerals = numerals_by_weight _ tells_all_ascii_digits decimal_value
    (record { empty = refl; more = λ c cs digit. ap (λ v. v * 10 ^ length cs + decimal_value cs) (grind (arith, nat_tests)) })

pub pow-positive : (n : ℕ) → 0 < 10 ^ n
pow-positive zero = lit< tt
pow-positive (suc n) = rw pow-suc (omega (arith, pow-positive n))

-- a number with room for more digits: there is room for it, and one digit more leaves room for the others
pub room-low : (time n : ℕ) → (time + 1) * 10 ^ suc n ≤ 10 ^ 15 → time * 10 + 10 ≤ 10 ^ 15
room-low time n room =
    omega (arith, rw (pow-suc 10 n) at room, mul-le-mul_left (time + 1) (pow-positive n))

pub room-step : (time n c : ℕ) → is_ascii_digit c ≡ true → (time + 1) * 10 ^ suc n ≤ 10 ^ 15 → (time * 10 + (c - 48) + 1) * 10 ^ n ≤ 10 ^ 15
room-step time n c digit room =
    let more : (time * 10 + (c - 48) + 1) * 10 ^ n ≤ (time * 10 + 10) * 10 ^ n = mul-le-mul_right (10 ^ n) (grind (arith, nat_tests)) in
    omega (arith, rw (pow-suc 10 n) at room)

-- a value by the digits up to a place and those from there on, where one more is read
pub value-step : (time c : ℕ) (rest : List ℕ) → is_ascii_digit c ≡ true
    → time * 10 ^ suc (length rest) + decimal_value (c ∷ rest) ≡ (time * 10 + (c - 48)) * 10 ^ length rest + decimal_value rest
value-step time c rest digit = rw (pow-suc, digit_value-digit c digit) (omega arith)

-- a time has at most fifteen digits
pub time_in-lt : (field : List ℕ) (time : ℕ) → time_in field ≡ Some time → time < 10 ^ 15
time_in-lt field time e =
    grind (arith, nat_tests, digits_value_short numerals field 15)

-- ---- digits in two parts

decimal_value-append : (xs ys : List ℕ) → decimal_value (xs ++ ys) ≡ decimal_value xs * 10 ^ length ys + decimal_value ys
decimal_value-append [] ys = omega arith
decimal_value-append (x ∷ xs) ys = rw (length-append xs ys, pow-add 10 (length xs) (length ys), decimal_value-append xs ys) (omega arith)

all_ascii_digits-append : (xs ys : List ℕ) → all_ascii_digits (xs ++ ys) ≡ (all_ascii_digits xs && all_ascii_digits ys)
all_ascii_digits-append [] ys = refl
all_ascii_digits-append (x ∷ xs) ys = rw (all_ascii_digits-append xs ys) (grind arith)

-- eight digits leave room for seven more
pub eight-low : (xs : List ℕ) (n : ℕ) → digits_after 0 xs ≡ Some n → length xs ≡ 8 → n < 10 ^ 8
eight-low xs n h size = let low = λ (all : all_ascii_digits xs ≡ true). digits_value_short numerals xs 8 all (omega arith) in grind arith

pub room-after : (n k : ℕ) → n < 10 ^ 8 → k ≤ 7 → (n + 1) * 10 ^ k ≤ 10 ^ 15
room-after n k low short =
    let power : 10 ^ k ≤ 10 ^ 7 = pow-le-pow_right {n = 10} (lit< tt) short in
    omega (arith, mul-le-mul_right (10 ^ k) low)

-- a field of 1 to 15 bytes
pub time_in-digits : (field : List ℕ) → 0 < length field → length field ≤ 15 → time_in field ≡ digits_after 0 field
time_in-digits field some few =
    grind (arith, nat_tests)

-- such a field in two parts: where the first is none, the whole is none; else the second goes on after it
module _ (field front rest : List ℕ) (whole : field ≡ front ++ rest) (some : 0 < length field) (few : length field ≤ 15) where
  pub time_in-none : digits_after 0 front ≡ None → time_in field ≡ None
  time_in-none h = time_in-digits field some few ∙ rw whole (grind (arith, all_ascii_digits-append))

  pub time_in-some : (n : ℕ) → digits_after 0 front ≡ Some n → time_in field ≡ digits_after n rest
  time_in-some n h = time_in-digits field some few ∙ rw whole (grind (arith, all_ascii_digits-append, decimal_value-append))

-- ---- three fields, by their places

-- no field at a place: there are no more than so many
at-none : (fields : List (List ℕ)) (i : ℕ) → None ≡ field_at fields i → length fields ≤ i
unfolding field_at
at-none [] i e = omega arith
at-none (f ∷ fs) zero e = cc
at-none (f ∷ fs) (suc i) e = omega (arith, at-none fs i e)

-- a place below three without a field
pub not-three : (fields : List (List ℕ)) (i : ℕ) → i ≤ 2 → None ≡ field_at fields i → length fields ≢ 3
not-three fields i within e = λ three. omega (arith, at-none fields i e)

-- three fields, read at their places
pub three : (fields : List (List ℕ)) (a b c : List ℕ) → length fields ≡ 3
    → Some a ≡ field_at fields 0 → Some b ≡ field_at fields 1 → Some c ≡ field_at fields 2 → fields ≡ a ∷ b ∷ c ∷ []
unfolding field_at
three (p ∷ q ∷ r ∷ []) a b c size x y z = cc
three fields a b c size x y z = absurd (omega arith)
