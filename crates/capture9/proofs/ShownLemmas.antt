-- What is shown of a field: its first bytes, filled up with zeros, which do not show.
use Rattle.capture9.proofs.Words.{ap, arith, Bool, drop, false, in_quotes, is_printable, length, List, list_all, list_all-append, map, min, nat_lt, nat_tests, places, printed, refl}
use Rattle.capture9.proofs.Words.{replicate, rules, same_lists, shown_of, shown_text, ShownField, take, true, ℕ, [], ◌++◌, ◌∷◌, ◌≡◌}

filled : (m n : ℕ) (field : List ℕ) → n ≡ min (length field) m → take n field ++ drop n (replicate m 0) ≡ take m (field ++ replicate m 0)
filled m n field e = same_lists _ _ (search (rules, places)) (λ k d h. grind (arith, places))

pub shown : (field front : List ℕ) (n : ℕ) → n ≡ min (length field) 24 → front ≡ take n field
    → (let it : ShownField = record { bytes = front ++ drop n (replicate 24 0); len = n; is_cut = nat_lt 24 (length field) } in it) ≡ shown_of field
shown field front n size is = let whole = filled 24 n field size in cc

unfilled : (m n : ℕ) (field : List ℕ) → n ≡ min (length field) m → take n (take m (field ++ replicate m 0)) ≡ take m field
unfilled m n field e = same_lists _ _ (search (rules, places)) (λ k d h. grind (arith, places))

pub same-text : (field : List ℕ) → shown_text (shown_of field) ≡ in_quotes (take 24 field) (nat_lt 24 (length field))
same-text field = ap (λ bytes. in_quotes bytes (nat_lt 24 (length field))) (unfilled 24 (min (length field) 24) field refl)

prints-byte : (byte : ℕ) → is_printable (printed byte) ≡ true
prints-byte byte = grind (arith, nat_tests)

prints-all : (bytes : List ℕ) → list_all is_printable (map printed bytes) ≡ true
prints-all [] = refl
prints-all (byte ∷ bytes) = rw (prints-byte byte, prints-all bytes) refl

pub prints : (bytes : List ℕ) (is_cut : Bool) → list_all is_printable (in_quotes bytes is_cut) ≡ true
prints bytes true = simp (list_all-append, prints-all bytes)
prints bytes false = simp (list_all-append, prints-all bytes)
