-- The reasons that a NAK gives, in one byte.
use Rattle.std.specs.Prelude.{ℕ, List, [], ◌∷◌, codes}

-- the name of each bit that has one, and its value
abbrev pub nak_bits : List (List ℕ × ℕ)
nak_bits =
    (codes "undefined", 0x01)
    ∷ (codes "checksum", 0x04)
    ∷ (codes "parity", 0x10)
    ∷ (codes "overrun", 0x20)
    ∷ (codes "framing", 0x40)
    ∷ (codes "timeout", 0x80)
    ∷ []
