-- What a deck may do by itself after commands: what the tables [runs] and [loses] say together.
use Rattle.std.specs.Prelude.{ℕ, if◌then◌else◌, Option, Some, None}
use Rattle.deck9.specs.declared.going.Going.{Going}
use Rattle.deck9.specs.declared.going.Lost.{Lost}
use Rattle.deck9.specs.declared.going.Lost.TheVariants.{NoRegister}
use Rattle.deck9.specs.declared.mode_set.ModeSet.{ModeSet}
use Rattle.deck9.specs.ModeSet.{modes}
use Rattle.sheet9.specs.declared.refusal.EntryFault.{EntryFault}
use Rattle.sheet9.specs.declared.refusal.EntryFault.TheVariants.{BeginsNothing}
use Rattle.sheet9.specs.Head.{is_transport}

-- only a command of group 2 may begin what a deck does by itself
abbrev pub unfit_to_begin : ℕ → Option EntryFault
unfit_to_begin head = if is_transport head then None else Some BeginsNothing

-- what a command leaves going on that has a key in either table: what both say, and nothing of the table in which it has none
abbrev pub going_of : Option ModeSet → Option Lost → Option Going
going_of None None = None
going_of None (Some lost) = Some (record { modes = modes 0; lost = lost })
going_of (Some shown) None = Some (record { modes = shown; lost = NoRegister })
going_of (Some shown) (Some lost) = Some (record { modes = shown; lost = lost })
