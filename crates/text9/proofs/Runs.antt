-- The run of plain text that is not yet put.
use Rattle.std.proofs.Common.{arith, ℕ, suc, List, [], ◌∷◌, ◌≡◌, ◌≤◌, ◌<◌, ◌-◌, ◌+◌, ◌++◌, take, drop, length, get_or, length-drop, append_assoc, refl}
use Rattle.std.proofs.Math.Seq.{take-suc}
use Rattle.std.proofs.lemmas.List.{get_or-drop}

-- none where it begins
pub no_run : (form rest : List ℕ) (at : ℕ) → take (at - at) (drop at form) ++ rest ≡ rest
no_run form rest at =
    let none : at - at ≡ 0 = omega arith in
    rw none refl

-- one more byte of it
pub one_more : (form rest : List ℕ) (from at : ℕ) → from ≤ at → at < length form →
    take (at + 1 - from) (drop from form) ++ rest ≡ take (at - from) (drop from form) ++ (get_or form at 0 ∷ rest)
one_more form rest from at before within =
    let later : at + 1 - from ≡ suc (at - from) = omega arith in
    let place : from + (at - from) ≡ at = omega arith in
    let inside : at - from < length (drop from form) = rw length-drop (omega arith) in
    let more : take (suc (at - from)) (drop from form) ≡ take (at - from) (drop from form) ++ (get_or form at 0 ∷ []) =
    grind (arith, place, take-suc (drop from form) (at - from) 0 inside, get_or-drop from form (at - from) 0) in
    rw (later, more) (append_assoc (take (at - from) (drop from form)) (get_or form at 0 ∷ []) rest)
