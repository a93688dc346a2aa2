-- Which modes status data allow, and which they tell.
use Rattle.deck9.proofs.Words.{[], and_mask, and_pow, arith, bit_and, bit_of, Bool, Cued, Eject, either, FastForward, filter, if◌then◌else◌, is_mode, Jog, List, may_show, Mode, modes, ModeSet, nat_tests, of_modes, Play, Rec, refl, Rewind, ShowJust}
use Rattle.deck9.proofs.Words.{Shuttle, Some, Stop, true, Var, ℕ, ◌<◌, ◌||◌, ◌∷◌, ◌≡◌, ◌⊎◌}

-- the set of those of some modes that are allowed
pub record AreAllowed (p : Mode → Bool) (ms : List Mode) (set : ModeSet) : Type 0 where
  pub is : set ≡ of_modes (filter p ms)

pub none_allowed : (p : Mode → Bool) → AreAllowed p [] (modes 0)
none_allowed p = record { is = refl }

-- with one mode before them
pub one_more : (p : Mode → Bool) (m : Mode) {ms : List Mode} {old new : ModeSet} → AreAllowed p ms old
    → new ≡ (if p m then either (modes (bit_of m)) old else old) → AreAllowed p (m ∷ ms) new
one_more p m {ms} {old} {new} before after = record { is = let was = before.is in grind arith }

show_just : (p : Mode → Bool) (datum1 datum2 : ℕ) → datum1 < 256 → datum2 < 256 → ((m : Mode) → may_show (Some datum1) (Some datum2) m ≡ p m) → ShowJust p
show_just p datum1 datum2 is_byte1 is_byte2 just = record { datum1 = datum1; datum2 = datum2; is_byte1 = is_byte1; is_byte2 = is_byte2; just = just }

pub alone : (m : Mode) → (m ≡ Cued → ⊥) → ShowJust (is_mode m)
alone Stop other = show_just _ 0x20 0x00 (omega arith) (omega arith) (λ m. grind arith)
alone Play other = show_just _ 0x01 0x00 (omega arith) (omega arith) (λ m. grind arith)
alone Rec other = show_just _ 0x02 0x00 (omega arith) (omega arith) (λ m. grind arith)
alone FastForward other = show_just _ 0x04 0x00 (omega arith) (omega arith) (λ m. grind arith)
alone Rewind other = show_just _ 0x08 0x00 (omega arith) (omega arith) (λ m. grind arith)
alone Shuttle other = show_just _ 0x00 0x20 (omega arith) (omega arith) (λ m. grind arith)
alone Jog other = show_just _ 0x00 0x10 (omega arith) (omega arith) (λ m. grind arith)
alone Var other = show_just _ 0x00 0x08 (omega arith) (omega arith) (λ m. grind arith)
alone Cued other = absurd (other refl)
alone Eject other = show_just _ 0x10 0x00 (omega arith) (omega arith) (λ m. grind arith)

pub cued_or_stop : ShowJust (λ m. is_mode Cued m || is_mode Stop m)
cued_or_stop = show_just _ 0x20 0x01 (omega arith) (omega arith) (λ m. grind arith)

pub cued_or_eject : ShowJust (λ m. is_mode Cued m || is_mode Eject m)
cued_or_eject = show_just _ 0x00 0x01 (omega arith) (omega arith) (λ m. grind arith)

-- five low bits that are clear: the sixth is set, or all six are clear
low_bits : (n : ℕ) → bit_and n 0x1F ≡ 0 → (bit_and n 0x20 ≡ 0x20) ⊎ (bit_and n 0x3F ≡ 0)
low_bits n h = let five = and_mask n 5 in let six = and_mask n 6 in let sixth = and_pow n 5 in grind arith

-- what fits CUED fits STOP or EJECT
pub cued_or_other : (datum1 datum2 : ℕ) → may_show (Some datum1) (Some datum2) Cued ≡ true
    → (may_show (Some datum1) (Some datum2) Stop ≡ true) ⊎ (may_show (Some datum1) (Some datum2) Eject ≡ true)
cued_or_other datum1 datum2 h = let low = low_bits datum1 in let free = and_mask datum2 0 in grind (arith, nat_tests)
