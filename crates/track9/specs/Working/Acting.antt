-- What a drift goes by: what the deck does of its own, and what may be going on.
use Rattle.std.specs.Prelude.{◌≡◌, List, None, Option, slice_index_or}
use Rattle.deck9.specs.declared.deck.Deck.{Deck}
use Rattle.deck9.specs.declared.going.Going.{Going}
use Rattle.deck9.specs.declared.going.Lost.TheVariants.{NoRegister}
use Rattle.deck9.specs.declared.mode.Mode.{Mode}
use Rattle.deck9.specs.declared.mode_set.ModeSet.{ModeSet}
use Rattle.deck9.specs.Deck.{way_of}
use Rattle.deck9.specs.Going.{nothing_on}
use Rattle.deck9.specs.Mode.{index_of}
use Rattle.deck9.specs.ModeSet.{bit_of, either, modes}
use Rattle.track9.specs.Working.Deck.{both}

-- what the deck does of its own, and what may be going on
pub record Acted : Type 0 where
  pub deck : Option Deck
  pub on : Going

-- the modes that a drift may show with a goal, beside it: those on the way to it, and those that may be going on
abbrev pub ways_by : Option Deck → Going → Mode → ModeSet
ways_by deck on g = either (way_of deck g) on.modes

-- the same of both
abbrev pub way_by : Acted → Mode → ModeSet
way_by acted g = ways_by acted.deck acted.on g

-- the modes that a drift may show with a goal that it keeps: the goal itself and those, and no bit above the ten modes'
abbrev pub reach_by : Option Deck → Going → Mode → ModeSet
reach_by deck on g = both (either (modes (bit_of g)) (ways_by deck on g)) (modes 0x3FF)

abbrev pub reach_of : Acted → Mode → ModeSet
reach_of acted g = reach_by acted.deck acted.on g

-- these are they, in the order of the modes
abbrev pub HoldsReach : Option Deck → Going → List ModeSet → Type 0
HoldsReach deck on reach = (g : Mode) → slice_index_or reach (index_of g) (modes 0) ≡ reach_by deck on g

-- there is no sheet, and nothing goes on
abbrev pub IsStill : Option Deck → Going → Type 0
IsStill deck on = (deck ≡ None) × (on ≡ nothing_on)

-- the same modes, and no register
abbrev pub quiet : Going → Going
quiet on = record on { lost = NoRegister }
