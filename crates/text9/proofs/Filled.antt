-- What a form gives, byte by byte.
use Rattle.std.proofs.Common.{arith, ℕ, Bool, true, false, List, ◌∷◌, ◌≡◌, ◌≢◌, ◌++◌, drop, refl}
use Rattle.std.proofs.lemmas.Bool.Decides.{nat_tests}
use Rattle.text9.specs.Form.{filled, next_number, next_text}

-- a brace begins or ends a place
pub opens : (inside : Bool) (b : ℕ) (form numbers : List ℕ) (texts : List (List ℕ)) → b ≡ 123 → filled inside (b ∷ form) numbers texts ≡ filled true form numbers texts
unfolding filled
opens inside b form numbers texts is = rw is refl

pub closes : (inside : Bool) (b : ℕ) (form numbers : List ℕ) (texts : List (List ℕ)) → b ≡ 125 → filled inside (b ∷ form) numbers texts ≡ filled false form numbers texts
unfolding filled
closes inside b form numbers texts is = rw is refl

-- a byte outside of a place stands for itself
pub stands : (b : ℕ) (form numbers : List ℕ) (texts : List (List ℕ)) → b ≢ 123 → b ≢ 125 → filled false (b ∷ form) numbers texts ≡ b ∷ filled false form numbers texts
unfolding filled
stands b form numbers texts begins ends = grind (arith, nat_tests)

-- a letter of a place takes the next text or number
pub takes_text : (b : ℕ) (form numbers : List ℕ) (texts : List (List ℕ)) → b ≡ 116 →
    filled true (b ∷ form) numbers texts ≡ next_text texts ++ filled true form numbers (drop 1 texts)
unfolding filled
takes_text b form numbers texts is = rw is refl

pub takes_number : (b : ℕ) (form numbers : List ℕ) (texts : List (List ℕ)) → b ≢ 123 → b ≢ 125 → b ≢ 116 →
    filled true (b ∷ form) numbers texts ≡ next_number b numbers ++ filled true form (drop 1 numbers) texts
unfolding filled
takes_number b form numbers texts begins ends other = grind (arith, nat_tests)
