-- Which commands a deck in LOCAL may ignore.
use Rattle.std.specs.Prelude.{Bool, true, false}
use Rattle.block9.specs.declared.command.Command.{Command}
use Rattle.deck9.specs.declared.effect.Effect.{Effect}
use Rattle.deck9.specs.declared.effect.Effect.TheVariants as effect
use Rattle.deck9.specs.Effect.{listed_effect}

-- the goal changes, or a register does: what a listed transport or preset command does, if it does anything
abbrev pub is_of_goal_or_register : Effect → Bool
is_of_goal_or_register (effect.Go g) = true
is_of_goal_or_register (effect.KeepOr goals) = true
is_of_goal_or_register (effect.Change r c) = true
is_of_goal_or_register effect.Nothing = false
is_of_goal_or_register (effect.Panel on) = false
is_of_goal_or_register (effect.Forget f) = false

-- a deck in LOCAL may ignore it: the listed transport and preset commands that have an effect, and no other
abbrev pub may_ignore : Command → Bool
may_ignore command = is_of_goal_or_register (listed_effect command)
