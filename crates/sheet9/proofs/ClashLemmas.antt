-- Looking through a table for a key at which something is not so, and comparing lists.
use Rattle.sheet9.proofs.Words.{[], arith, Bool, cond, every_mode, false, index_of, inl, inr, List, Mode, nat_cmp, nat_tests, None, Option, refl, Some, Stop, suc, true, ℕ, ◌<◌, ◌∷◌, ◌≡◌, ◌⊎◌}
use Rattle.std.proofs.Common.{get_or, subst, zero}
use Rattle.std.specs.BTreeMap.{BTreeMap, get, is_at}
use Rattle.std.specs.Map.{lookup}
use Rattle.std.specs.Prelude.{IsSome}
use Rattle.deck9.specs.declared.mode_set.ModeSet.{ModeSet}
use Rattle.deck9.specs.ModeSet.{either, modes}
use Rattle.sheet9.specs.Sheets.{both_ways}
use Rattle.deck9.specs.declared.mode.Mode.TheVariants as mode

-- something is so at a key, or the key is still to come
abbrev pub SoOrToCome : {V : Type 0} → (ℕ → Type 0) → List (ℕ × V) → ℕ → Type 0
SoOrToCome So rest head = So head ⊎ IsSome (lookup (is_at (nat_cmp head)) rest)

-- before the first, where it is so at each key that the table lacks
pub all_to_come : {V : Type 0} (So : ℕ → Type 0) (m : BTreeMap ℕ V) → ((head : ℕ) → get nat_cmp m head ≡ None → So head) → (head : ℕ) → SoOrToCome So m.entries head
all_to_come {V = V} So m lacks head = go (lookup (is_at (nat_cmp head)) m.entries) refl
  where
    go : (o : Option V) → lookup (is_at (nat_cmp head)) m.entries ≡ o → SoOrToCome So m.entries head
    go None is = inl (lacks head is)
    go (Some v) is = inr (rw is refl)

-- after one at which it is so
pub one_less : {V : Type 0} (So : ℕ → Type 0) (k : ℕ) (v : V) (rest : List (ℕ × V)) → So k → ((head : ℕ) → SoOrToCome So ((k, v) ∷ rest) head)
    → (head : ℕ) → SoOrToCome So rest head
one_less So k v rest so before head = go (is_at (nat_cmp head) k) refl (before head)
  where
    go : (b : Bool) → is_at (nat_cmp head) k ≡ b → So head ⊎ IsSome (cond b (Some v) (lookup (is_at (nat_cmp head)) rest)) → SoOrToCome So rest head
    go true at h = inl (let same : k ≡ head = grind (arith, nat_tests, at) in subst So same so)
    go false at h = h

-- after the last
pub none_to_come : (V : Type 0) (So : ℕ → Type 0) (head : ℕ) → SoOrToCome {V = V} So [] head → So head
none_to_come V So head (inl so) = so
none_to_come V So head (inr to_come) = let clash : false ≡ true = to_come in cc

-- a mode stands at its place
pub at_its_place : (goal : Mode) → (index_of goal < 10) × (get_or every_mode (index_of goal) Stop ≡ goal)
at_its_place Stop = (omega arith, refl)
at_its_place mode.Play = (omega arith, refl)
at_its_place mode.Rec = (omega arith, refl)
at_its_place mode.FastForward = (omega arith, refl)
at_its_place mode.Rewind = (omega arith, refl)
at_its_place mode.Shuttle = (omega arith, refl)
at_its_place mode.Jog = (omega arith, refl)
at_its_place mode.Var = (omega arith, refl)
at_its_place mode.Cued = (omega arith, refl)
at_its_place mode.Eject = (omega arith, refl)

-- the ways by either, place by place
pub all_at_places : (one other : List ModeSet) (i : ℕ) → i < 10
    → either (get_or one i (modes 0)) (get_or other i (modes 0)) ≡ get_or (both_ways one other) i (modes 0)
all_at_places one other zero below = refl
all_at_places one other (suc zero) below = refl
all_at_places one other (suc (suc zero)) below = refl
all_at_places one other (suc (suc (suc zero))) below = refl
all_at_places one other (suc (suc (suc (suc zero)))) below = refl
all_at_places one other (suc (suc (suc (suc (suc zero))))) below = refl
all_at_places one other (suc (suc (suc (suc (suc (suc zero)))))) below = refl
all_at_places one other (suc (suc (suc (suc (suc (suc (suc zero))))))) below = refl
all_at_places one other (suc (suc (suc (suc (suc (suc (suc (suc zero)))))))) below = refl
all_at_places one other (suc (suc (suc (suc (suc (suc (suc (suc (suc zero))))))))) below = refl
all_at_places one other (suc (suc (suc (suc (suc (suc (suc (suc (suc (suc i)))))))))) below = absurd (omega (arith, below))
