-- The exchanges that take no memory, where hands are not allowed.
use Rattle.std.specs.Prelude.{◌||◌, ◌&&◌, Bool, true, false, Option}
use Rattle.block9.specs.declared.block.Block.{Block}
use Rattle.block9.specs.declared.command.Command.{Command}
use Rattle.block9.specs.Command.{is_nak}
use Rattle.deck9.specs.declared.deck.Deck.{Deck}
use Rattle.deck9.specs.declared.deck.Forgotten.TheVariants as forgotten
use Rattle.deck9.specs.declared.effect.Effect.{Effect}
use Rattle.deck9.specs.declared.effect.Effect.TheVariants as effect
use Rattle.deck9.specs.declared.sense.Sense.{Sense}
use Rattle.deck9.specs.declared.sense.Sense.TheVariants as sense
use Rattle.deck9.specs.Effect.{effect_of}
use Rattle.deck9.specs.Shows.{shown_by}

-- an effect on goal, shown mode and panel alone
abbrev pub is_frugal_effect : Effect → Bool
is_frugal_effect effect.Nothing = true
is_frugal_effect (effect.Go g) = true
is_frugal_effect (effect.KeepOr goals) = true
is_frugal_effect (effect.Panel on) = true
is_frugal_effect (effect.Forget forgotten.Nothing) = true
is_frugal_effect (effect.Forget forgotten.Motion) = true
is_frugal_effect _ = false

-- what is wanted is no register's time
abbrev pub is_frugal_sense : Sense → Bool
is_frugal_sense (sense.Register r) = false
is_frugal_sense _ = true

-- a NAK; or a reply that gives no register's time, to a command that changes and forgets no register: each system and transport
-- command, STATUS SENSE and CURRENT TIME SENSE are of this kind
abbrev pub is_frugal : Option Deck → Command → Block → Bool
is_frugal deck command reply = is_nak reply || (is_frugal_sense (shown_by command reply) && is_frugal_effect (effect_of deck command))
