-- A set of modes: a bit for each, in the order of the modes.
use Rattle.std.specs.Prelude.{ℕ, ◌^◌, ◌==◌, Bool, bit_and, bit_or, List, [], ◌∷◌, map}
use Rattle.deck9.specs.declared.mode.Mode.{Mode}
use Rattle.deck9.specs.declared.mode_set.ModeSet.{ModeSet}
use Rattle.deck9.specs.Mode.{every_mode, index_of, name_of}

-- the bit of a mode
abbrev pub bit_of : Mode → ℕ
bit_of m = 2 ^ index_of m

-- a set has this mode
abbrev pub has : ℕ → Mode → Bool
has set m = bit_and set (bit_of m) == bit_of m

-- the set with these bits
abbrev pub modes : ℕ → ModeSet
modes n = record { 0 = n }

-- the modes of either
abbrev pub either : ModeSet → ModeSet → ModeSet
either a b = modes (bit_or a.0 b.0)

-- the set of these modes
abbrev pub of_modes : List Mode → ModeSet
of_modes [] = modes 0
of_modes (m ∷ ms) = either (modes (bit_of m)) (of_modes ms)

-- a mode as a named bit
abbrev pub flag : Mode → List ℕ × ℕ
flag m = (name_of m, bit_of m)

-- the named bits of a set
abbrev pub flags : List (List ℕ × ℕ)
flags = map flag every_mode
