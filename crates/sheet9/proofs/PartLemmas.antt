-- A map is parted in two by a test of its keys.
use Rattle.sheet9.proofs.Words.{[], arith, Bool, cond, false, if◌then◌else◌, length, List, nat_cmp, nat_tests, None, Option, refl, Some, true, ℕ, ◌<◌, ◌∷◌, ◌≡◌, ◌⊎◌}
use Rattle.std.proofs.Common.{subst}
use Rattle.std.specs.BTreeMap.{BTreeMap, btree_map_len, get, is_at}
use Rattle.std.specs.Map.{lookup}

-- what the map still has at a key, what it had, and what the two parts have: it is still in the map, or in its part
abbrev pub AreParted : {X : Type 0} → Bool → Option X → Option X → Option X → Option X → Type 0
AreParted test rest whole unlisted listed =
    ((rest ≡ whole) × (unlisted ≡ None) × (listed ≡ None))
    ⊎ ((rest ≡ None) × (unlisted ≡ (if test then None else whole)) × (listed ≡ (if test then whole else None)))

-- an entry moves into its part, where this is the key that it has
pub moves : {X : Type 0} (here test b : Bool) (v : X) (rest whole unlisted listed : Option X) → (here ≡ true → (test ≡ b) × (rest ≡ Some v))
    → AreParted test rest whole unlisted listed
    → AreParted test (cond here None rest) whole (if b then unlisted else cond here (Some v) unlisted) (if b then cond here (Some v) listed else listed)
moves here test true v rest whole unlisted listed is h = grind (arith, is, h)
moves here test false v rest whole unlisted listed is h = grind (arith, is, h)

-- what is known of an entry's key is known of one that is found by it
pub here_too : {X : Type 0} (test : ℕ → Bool) (b : Bool) (m : BTreeMap ℕ X) (k q : ℕ) (v : X) → test k ≡ b → get nat_cmp m k ≡ Some v
    → is_at (nat_cmp k) q ≡ true → (test q ≡ b) × (get nat_cmp m q ≡ Some v)
here_too test b m k q v tested has at =
    let same : k ≡ q = grind (arith, nat_tests, at) in
    (subst (λ n. test n ≡ b) same tested, subst (λ n. get nat_cmp m n ≡ Some v) same has)

-- where nothing is left, each key is in its part
pub all_parted : {X : Type 0} (test : Bool) (rest whole unlisted listed : Option X) → rest ≡ None → AreParted test rest whole unlisted listed
    → (unlisted ≡ (if test then None else whole)) × (listed ≡ (if test then whole else None))
all_parted test rest whole unlisted listed gone h = (grind (arith, gone, h), grind (arith, gone, h))

pub none_left : {X : Type 0} (m : BTreeMap ℕ X) (q : ℕ) → ¬ (0 < btree_map_len m) → get nat_cmp m q ≡ None
none_left {X = X} m q none = none_in m.entries none
  where
    none_in : (es : List (ℕ × X)) → ¬ (0 < length es) → lookup (is_at (nat_cmp q)) es ≡ None
    none_in [] none = refl
    none_in (e ∷ es) none = absurd (none (omega arith))
