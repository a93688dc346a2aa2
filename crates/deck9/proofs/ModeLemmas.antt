-- Modes and their places.
use Rattle.deck9.proofs.Words.{arith, Cued, Eject, eqb-true, FastForward, if◌then◌else◌, index_of, is_mode, Jog, Mode, nat_tests, Play, Rec, Rewind, Shuttle, Stop, true, Var, ℕ}
use Rattle.deck9.proofs.Words.{◌<◌, ◌==◌, ◌≡◌}

abbrev pub mode_of : ℕ → Mode
mode_of n = if n == 0 then Stop else (if n == 1 then Play else (if n == 2 then Rec else (if n == 3 then FastForward
    else (if n == 4 then Rewind else (if n == 5 then Shuttle else (if n == 6 then Jog else (if n == 7 then Var else (if n == 8 then Cued else (Eject)))))))))

pub index-mode_of : (n : ℕ) → n < 10 → index_of (mode_of n) ≡ n
index-mode_of n h = grind (arith, nat_tests)

pub same_mode : (a b : Mode) → index_of a ≡ index_of b → a ≡ b
same_mode a b h = grind arith

pub is_mode-same : (a b : Mode) → is_mode a b ≡ true → a ≡ b
is_mode-same a b h = same_mode a b (eqb-true (index_of a) (index_of b) h)
