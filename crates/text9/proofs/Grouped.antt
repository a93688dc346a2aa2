-- Numbers with commas.
use Rattle.std.proofs.Common.{arith, ℕ, zero, suc, ◌≡◌, ◌≤◌, ◌<◌, ◌-◌, ◌/◌, ◌++◌, ◌∷◌, [], refl}
use Rattle.std.proofs.lemmas.Bool.Decides.{nat_tests}
use Rattle.std.specs.Fmt.{decimal}
use Rattle.text9.specs.Form.{grouped, last_digit}

-- where no comma is left
pub grouped_whole : (commas n : ℕ) → commas ≡ 0 → grouped commas n ≡ decimal n
unfolding grouped
grouped_whole zero n none = refl
grouped_whole (suc commas) n none = absurd (omega arith)

-- a number of three digits at most
pub grouped_few : (commas n : ℕ) → n < 1000 → grouped commas n ≡ decimal n
unfolding grouped
grouped_few zero n few = refl
grouped_few (suc commas) n few = grind (arith, nat_tests)

-- a number of more digits, where a comma is left
pub grouped_more : (commas n : ℕ) → 0 < commas → 1000 ≤ n → grouped commas n ≡ grouped (commas - 1) (n / 1000) ++ (44 ∷ last_digit (n / 100) ∷ last_digit (n / 10) ∷ last_digit n ∷ [])
unfolding grouped
grouped_more zero n some large = absurd (omega arith)
grouped_more (suc commas) n some large = grind (arith, nat_tests)
