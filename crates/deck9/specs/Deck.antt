-- What a deck forgets at commands that are not listed, and at each beside its effect, where others may lead, the replies that are named
-- for its commands, and the modes on the way to its goals: as its `Deck` says, and where it has none, as the rules say of every deck.
use Rattle.std.specs.Prelude.{ℕ, ◌==◌, ◌/◌, if◌then◌else◌, Option, Some, None, option_map, slice_index_or}
use Rattle.std.specs.BTreeMap.{get}
use Rattle.std.specs.Ordering.{nat_cmp}
use Rattle.block9.specs.Replies.{Named}
use Rattle.block9.specs.declared.command.Command.{Command}
use Rattle.deck9.specs.declared.deck.Deck.{Deck}
use Rattle.deck9.specs.declared.deck.Forgotten.{Forgotten}
use Rattle.deck9.specs.declared.deck.Forgotten.TheVariants.{Everything, Nothing, Registers, Tape}
use Rattle.deck9.specs.declared.mode.Mode.{Mode}
use Rattle.deck9.specs.declared.mode_set.ModeSet.{ModeSet}
use Rattle.deck9.specs.declared.sense.Sense.{Sense}
use Rattle.deck9.specs.declared.sense.Sense.TheVariants as sense
use Rattle.deck9.specs.Mode.{index_of, on_the_way}
use Rattle.deck9.specs.ModeSet.{modes, of_modes}
use Rattle.deck9.specs.Shows.{sense_of}

-- what is forgotten at a command that is not listed and not named, by its group
abbrev pub forgotten_by_group : ℕ → Forgotten
forgotten_by_group group =
    if group == 2 then Tape
    else (if group == 4 then Registers
    else (if group == 6 then Nothing else Everything))

-- what is named for a command, by the first two bytes of its block as one number
abbrev pub named_at : Option Deck → ℕ → Option Forgotten
named_at None head = None
named_at (Some d) head = get nat_cmp d.forgets head

-- what a deck forgets at a command that is not listed: what is named for it, or else by its group, the high four bits of its head
abbrev pub forgotten_at : Option Deck → ℕ → Forgotten
forgotten_at deck head = named_or (named_at deck head) (forgotten_by_group (head / 0x1000))
  where
    named_or : Option Forgotten → Forgotten → Forgotten
    named_or None forgotten = forgotten
    named_or (Some named) forgotten = named

-- the modes of which the goal may become one at a command that is not listed, where some are named
abbrev pub goals_at : Option Deck → ℕ → Option ModeSet
goals_at None head = None
goals_at (Some d) head = get nat_cmp d.goals head

-- the replies that are named for a deck's commands
abbrev pub replies_of : Option Deck → Named
replies_of deck = option_map (λ (d : Deck). d.replies) deck

-- what is named, and nothing where nothing is
abbrev pub named_or_nothing : Option Forgotten → Forgotten
named_or_nothing None = Nothing
named_or_nothing (Some named) = named

-- what is named beside a command's effect, by the first two bytes of its block as one number
abbrev pub named_beside : Option Deck → ℕ → Forgotten
named_beside None head = Nothing
named_beside (Some d) head = named_or_nothing (get nat_cmp d.also_forgets head)

-- where it asks for nothing of the state
abbrev pub unless_sensed : Sense → Forgotten → Forgotten
unless_sensed sense.Nothing forgotten = forgotten
unless_sensed _ forgotten = Nothing

-- what a deck forgets at a command beside the command's own effect: what is named for it, but for one that asks for something of
-- the state, whose reply then shows it
abbrev pub forgotten_beside : Option Deck → Command → ℕ → Forgotten
forgotten_beside deck command head = unless_sensed (sense_of command) (named_beside deck head)

-- the modes that a deck may show on the way to a goal
abbrev pub way_of : Option Deck → Mode → ModeSet
way_of None goal = of_modes (on_the_way goal)
way_of (Some d) goal = slice_index_or d.ways (index_of goal) (modes 0)
