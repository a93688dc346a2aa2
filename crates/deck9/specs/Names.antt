-- What reports call a command.
use Rattle.std.specs.Prelude.{ℕ, List, Option, None, Some, option_map}
use Rattle.std.specs.BTreeMap.{get}
use Rattle.std.specs.Ordering.{nat_cmp}
use Rattle.block9.specs.declared.command.Command.{Command}
use Rattle.block9.specs.declared.command.Command.TheVariants.{Unlisted}
use Rattle.block9.specs.Command.{name_of}
use Rattle.deck9.specs.declared.deck.Deck.{Deck}

-- the name that a deck has for a command, by the first two bytes of the command's block as one number
abbrev pub named_for : Option Deck → ℕ → Option (List ℕ)
named_for None head = None
named_for (Some d) head = option_map (λ name. name.items) (get nat_cmp d.names head)

-- the name that reports give a command: its own where it is listed, and else the one that the deck has for it, if it has one
unfoldable pub name_told : Option Deck → Command → Option (List ℕ)
name_told deck (Unlisted head) = named_for deck head
name_told deck c = name_of c
