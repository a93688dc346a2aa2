-- The number that digits name, as `parse` reads it; and the parts of a word whose last one has no other byte than digits.
use Rattle.std.proofs.Common.{◌≡◌, ◌≢◌, ◌⊎◌, ℕ, ◌<◌, ◌≤◌, ◌^◌, List, [], ◌∷◌, ◌++◌, length, get_or, Bool, true, false, eqb, suc, inl, inr, refl, arith, Result, Ok, Err, Option, Some, None}
use Rattle.std.proofs.lemmas.Bool.Decides.{nat_tests}
use Rattle.std.specs.Char.{is_ascii_digit}
use Rattle.std.specs.Result.{OkIff, result_ok}
use Rattle.std.specs.Str.{all_ascii_digits}
use Rattle.std.specs.Str.Parse.{ParsesUnsigned, digits_value}
use Rattle.std.proofs.lemmas.Str.Parse.{IsNumeralModel, digits_value_short, numerals_by_value, parse_plain, tells_all_ascii_digits}
use Rattle.clap.specs.Words.{Text}
use Rattle.words9.specs.Values.{clock, count_of, decimals_of, microseconds, number_of, parts_at, seconds_of, sixtieth_of, time_in, time_of, whole_of}

numerals : IsNumeralModel (λ ds. all_ascii_digits ds ≡ true) (digits_value 10)
numerals = numerals_by_value _ tells_all_ascii_digits

-- what `parse` gives of a word that does not begin with a plus
parsed_if : {E : Type 0} (word : Text) (r : Result ℕ E) → OkIff r ((all_ascii_digits word ≡ true) × (0 < length word) × (digits_value 10 word < 2 ^ 32)) (digits_value 10 word)
    → result_ok r ≡ count_of 0 word
parsed_if word (Ok n) h = grind (arith, nat_tests)
parsed_if word (Err e) h = grind (arith, nat_tests, h)

pub parsed : {E : Type 0} (word : Text) (r : Result ℕ E) → ParsesUnsigned 32 10 word r → get_or word 0 0 ≢ 43 → result_ok r ≡ count_of 0 word
parsed word r h plain = parsed_if word r (parse_plain numerals 32 word r h plain)

-- a word that begins with a plus names no number
pub plus_names_none : (word : Text) → get_or word 0 0 ≡ 43 → None ≡ count_of 0 word
plus_names_none [] h = refl
plus_names_none (c ∷ cs) h = grind (arith, nat_tests)

-- nine digits name a number below a thousand million: one of 32 bits
pub whole-low : (word : Text) (n : ℕ) → length word ≤ 9 → count_of 0 word ≡ Some n → n < 1000000000
whole-low word n few is = let short = λ (all : all_ascii_digits word ≡ true). digits_value_short numerals word 9 all few in grind (arith, nat_tests, short)

pub whole-none : (word : Text) → length word ≤ 9 → count_of 0 word ≡ None → None ≡ whole_of word
whole-none word few none = let short = λ (all : all_ascii_digits word ≡ true). digits_value_short numerals word 9 all few in grind (arith, nat_tests, short)

pub decimals-none : (word : Text) → count_of 0 word ≡ None → None ≡ decimals_of word
decimals-none word none = let short = λ (all : all_ascii_digits word ≡ true) (few : length word ≤ 6). digits_value_short numerals word 6 all few in grind (arith, nat_tests, short)

-- a word without a byte is one part, and one with it is cut there
pub one_part : (c : ℕ) (word : Text) → ((i : ℕ) → i < length word → get_or word i 0 ≢ c) → parts_at c word ≡ word ∷ []
one_part c [] free = refl
one_part c (x ∷ xs) free =
    let other : eqb x c ≡ false = grind (arith, nat_tests, free 0) in
    rw other (rw (one_part c xs (λ i within. free (suc i) (omega arith))) refl)

pub two_parts : (c : ℕ) (front rest : Text) → ((i : ℕ) → i < length front → get_or front i 0 ≢ c) → parts_at c (front ++ (c ∷ rest)) ≡ front ∷ parts_at c rest
two_parts c [] rest free = let same : eqb c c ≡ true = grind (arith, nat_tests) in rw same refl
two_parts c (x ∷ xs) rest free =
    let other : eqb x c ≡ false = grind (arith, nat_tests, free 0) in
    rw other (rw (two_parts c xs rest (λ i within. free (suc i) (omega arith))) refl)

-- a word is one part, or it has another byte than digits, and is more
abbrev IsMore : ℕ → Text → Type 0
IsMore c word = (all_ascii_digits word ≡ false) × ((first second : Text) × (more : List Text) × (parts_at c word ≡ first ∷ second ∷ more))

one_or_more-cons : (c x : ℕ) (xs : Text) → is_ascii_digit c ≡ false → (b : Bool) → eqb x c ≡ b → (parts_at c xs ≡ xs ∷ []) ⊎ IsMore c xs
    → (parts_at c (x ∷ xs) ≡ (x ∷ xs) ∷ []) ⊎ IsMore c (x ∷ xs)
one_or_more-cons c x xs none true e (inl one) = inr (grind (arith, nat_tests), ([], xs, [], rw e (rw one refl)))
one_or_more-cons c x xs none true e (inr (other, (first, second, more, is))) = inr (grind (arith, nat_tests), ([], first, second ∷ more, rw e (rw is refl)))
one_or_more-cons c x xs none false e (inl one) = inl (rw e (rw one refl))
one_or_more-cons c x xs none false e (inr (other, (first, second, more, is))) = inr (grind (arith, nat_tests), (x ∷ first, second, more, rw e (rw is refl)))

one_or_more : (c : ℕ) (word : Text) → is_ascii_digit c ≡ false → (parts_at c word ≡ word ∷ []) ⊎ IsMore c word
one_or_more c [] none = inl refl
one_or_more c (x ∷ xs) none = one_or_more-cons c x xs none (eqb x c) refl (one_or_more c xs none)

-- a number with another byte than digits is none
number_of-none : (word : Text) → all_ascii_digits word ≡ false → number_of word ≡ None
number_of-none word other = grind (arith, nat_tests)

clock-none : (hours minutes : Option ℕ) → clock hours minutes None ≡ None
clock-none None minutes = refl
clock-none (Some hours) None = refl
clock-none (Some hours) (Some minutes) = refl

pub microseconds-none : (seconds : Option ℕ) → microseconds seconds None ≡ None
microseconds-none None = refl
microseconds-none (Some seconds) = refl

sixtieth_of-none : (word : Text) → number_of word ≡ None → sixtieth_of word ≡ None
sixtieth_of-none word none = grind (arith, nat_tests)

decimals_of-none : (word : Text) → number_of word ≡ None → decimals_of word ≡ None
decimals_of-none word none = grind (arith, nat_tests)

-- the seconds of a clock, where the last part may be more
clock_in : (hours minutes seconds : Text) → (parts_at 58 seconds ≡ seconds ∷ []) ⊎ IsMore 58 seconds
    → clock (whole_of hours) (sixtieth_of minutes) (sixtieth_of seconds) ≡ seconds_of (hours ∷ minutes ∷ parts_at 58 seconds)
clock_in hours minutes seconds (inl one) = rw one refl
clock_in hours minutes seconds (inr (other, (first, second, more, is))) =
    rw (sixtieth_of-none seconds (number_of-none seconds other), is, clock-none) refl

-- and decimals
decimals_in : (whole decimals : Text) → (parts_at 46 decimals ≡ decimals ∷ []) ⊎ IsMore 46 decimals
    → microseconds (seconds_of (parts_at 58 whole)) (decimals_of decimals) ≡ time_in (whole ∷ parts_at 46 decimals)
decimals_in whole decimals (inl one) = rw one refl
decimals_in whole decimals (inr (other, (first, second, more, is))) =
    rw (decimals_of-none decimals (number_of-none decimals other), is, microseconds-none) refl

-- what a cut at the first colon, and at the next, gives
pub seconds_of-one : (word : Text) → ((i : ℕ) → i < length word → get_or word i 0 ≢ 58) → whole_of word ≡ seconds_of (parts_at 58 word)
seconds_of-one word free = rw (one_part 58 word free) refl

pub seconds_of-two : (word hours rest : Text) → word ≡ hours ++ (58 ∷ rest) → ((i : ℕ) → i < length hours → get_or hours i 0 ≢ 58)
    → ((i : ℕ) → i < length rest → get_or rest i 0 ≢ 58) → None ≡ seconds_of (parts_at 58 word)
seconds_of-two word hours rest is free none = rw (is, two_parts 58 hours rest free, one_part 58 rest none) refl

pub seconds_of-three : (word hours rest minutes seconds : Text) → word ≡ hours ++ (58 ∷ rest) → ((i : ℕ) → i < length hours → get_or hours i 0 ≢ 58)
    → rest ≡ minutes ++ (58 ∷ seconds) → ((i : ℕ) → i < length minutes → get_or minutes i 0 ≢ 58)
    → clock (whole_of hours) (sixtieth_of minutes) (sixtieth_of seconds) ≡ seconds_of (parts_at 58 word)
seconds_of-three word hours rest minutes seconds is free then next =
    rw (is, two_parts 58 hours rest free, then, two_parts 58 minutes seconds next) (clock_in hours minutes seconds (one_or_more 58 seconds refl))

-- what a cut at the first point gives
pub time_of-one : (word : Text) → ((i : ℕ) → i < length word → get_or word i 0 ≢ 46) → microseconds (seconds_of (parts_at 58 word)) (Some 0) ≡ time_of word
time_of-one word free = rw (one_part 46 word free) refl

pub time_of-two : (word whole decimals : Text) → word ≡ whole ++ (46 ∷ decimals) → ((i : ℕ) → i < length whole → get_or whole i 0 ≢ 46)
    → microseconds (seconds_of (parts_at 58 whole)) (decimals_of decimals) ≡ time_of word
time_of-two word whole decimals is free = rw (is, two_parts 46 whole decimals free) (decimals_in whole decimals (one_or_more 46 decimals refl))
