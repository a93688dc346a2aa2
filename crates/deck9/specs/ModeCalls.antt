-- What the calls of a set of modes give.
use Rattle.std.specs.Prelude.{◌==◌, ◌≡◌, ◌≢◌, Bool, true, not, bit_and}
use Rattle.deck9.specs.declared.knowledge.Known.{Known}
use Rattle.deck9.specs.declared.knowledge.Known.TheVariants as known
use Rattle.deck9.specs.declared.mode.Mode.{Mode}
use Rattle.deck9.specs.declared.mode_set.ModeSet.{ModeSet}
use Rattle.deck9.specs.Mode.{on_the_way}
use Rattle.deck9.specs.ModeSet.{has, modes, of_modes}

-- the modes of both
abbrev pub both : ModeSet → ModeSet → ModeSet
both a b = modes (bit_and a.0 b.0)

-- the modes on the way to a goal
abbrev pub way : Mode → ModeSet
way g = of_modes (on_the_way g)

-- one of the ten bits is there
abbrev pub is_some : ModeSet → Bool
is_some s = not (bit_and s.0 0x3FF == 0)

-- a set has this mode alone, or two
abbrev pub KnowsModes : ModeSet → Known Mode → Type 0
KnowsModes set (known.Is m) = (n : Mode) → has set.0 n ≡ true → n ≡ m
KnowsModes set known.Unknown = (m n : Mode) × (has set.0 m ≡ true) × (has set.0 n ≡ true) × (m ≢ n)
