-- Words, the names of the chosen ones of some things, and the bytes of a block in a row, one after another.
use Rattle.report9.proofs.Words.{[], ap, append_assoc, arith, Bool, codes, drop, drop-cons, get_or, hex_byte, hex_bytes, if◌then◌else◌, length, List, map, refl, suc, ℕ, ◌++◌, ◌+◌, ◌<◌, ◌∙◌, ◌∷◌}
use Rattle.report9.proofs.Words.{◌≡◌}
use Rattle.report9.specs.Row.{in_a_row, names_of}
use Rattle.report9.specs.Working.{next_before}

-- ---- words

-- what is put before the words after some
pub next_more : (before between : List ℕ) (words more : List (List ℕ))
    → next_before before between (words ++ more) ≡ next_before (next_before before between words) between more
next_more before between [] more = refl
next_more before between (word ∷ words) more = grind arith

-- some words, and then more
pub row_more : (before between : List ℕ) (words more : List (List ℕ)) → in_a_row before between (words ++ more)
    ≡ in_a_row before between words ++ in_a_row (next_before before between words) between more
row_more before between [] more = refl
row_more before between (word ∷ words) more = grind (arith, append_assoc, row_more between between words more)

-- ---- the names of things

-- the names that are left: that of the first thing, where it is chosen, and those of the others
names_next : {A : Type 0} (p : A → Bool) (name : A → List ℕ) (x : A) (xs : List A) (before between : List ℕ)
    → in_a_row before between (names_of p name (x ∷ xs))
    ≡ (if p x then before ++ name x else []) ++ in_a_row (if p x then between else before) between (names_of p name xs)
names_next p name x xs before between = grind arith

-- one thing more
pub names_more : {A : Type 0} (p : A → Bool) (name : A → List ℕ) (xs : List A) (i : ℕ) (d : A) (before next between line new whole : List ℕ) → i < length xs
    → line ++ in_a_row before between (names_of p name (drop i xs)) ≡ whole
    → new ≡ line ++ (if p (get_or xs i d) then before ++ name (get_or xs i d) else []) → next ≡ (if p (get_or xs i d) then between else before)
    → new ++ in_a_row next between (names_of p name (drop (i + 1) xs)) ≡ whole
names_more p name xs i d before next between line new whole h so_far text is_next =
    let x = get_or xs i d in
    let place : suc i ≡ i + 1 = omega arith in
    let split : drop i xs ≡ x ∷ drop (i + 1) xs = drop-cons xs i d h ∙ ap (λ k. x ∷ drop k xs) place in
    rw (text, is_next, append_assoc, ← names_next p name x (drop (i + 1) xs) before between) (rw split at so_far)

-- the names of what a function makes of some things
names-map : {A B : Type 0} (f : A → B) (p : B → Bool) (name : B → List ℕ) (xs : List A)
    → names_of p name (map f xs) ≡ names_of (λ x. p (f x)) (λ x. name (f x)) xs
names-map f p name [] = refl
names-map f p name (x ∷ xs) = rw (names-map f p name xs) refl

-- one of them more
pub mapped_more : {A B : Type 0} (f : A → B) (p : B → Bool) (name : B → List ℕ) (xs : List A) (i : ℕ) (d : A) (before next between line new whole : List ℕ)
    → i < length xs → line ++ in_a_row before between (names_of p name (map f (drop i xs))) ≡ whole
    → new ≡ line ++ (if p (f (get_or xs i d)) then before ++ name (f (get_or xs i d)) else []) → next ≡ (if p (f (get_or xs i d)) then between else before)
    → new ++ in_a_row next between (names_of p name (map f (drop (i + 1) xs))) ≡ whole
mapped_more f p name xs i d before next between line new whole h so_far text is_next =
    rw (names-map f p name (drop (i + 1) xs))
    (names_more (λ x. p (f x)) (λ x. name (f x)) xs i d before next between line new whole h (rw (names-map f p name (drop i xs)) at so_far) text is_next)

-- ---- the bytes of a block

pub hex_more : (bytes more : List ℕ) → hex_bytes (codes " ") (bytes ++ more) ≡ hex_bytes (codes " ") bytes ++ hex_bytes (codes " ") more
hex_more [] more = refl
hex_more (byte ∷ bytes) more = ap (λ t. codes " " ++ hex_byte byte ++ t) (hex_more bytes more)
