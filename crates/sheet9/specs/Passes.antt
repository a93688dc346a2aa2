-- What the table [passes] says: which modes a deck may also show on the way to a goal.
use Rattle.std.specs.Prelude.{ℕ, List, Option, Some, None, Result, Ok, Err, map, ok_or, slice_set}
use Rattle.toml.specs.Data.{Data, Items, Members, no_members, member, as_array, as_table}
use Rattle.deck9.specs.declared.mode.Mode.{Mode}
use Rattle.deck9.specs.declared.mode_set.ModeSet.{ModeSet}
use Rattle.deck9.specs.Mode.{every_mode, index_of}
use Rattle.deck9.specs.ModeCalls.{way}
use Rattle.sheet9.specs.declared.refusal.EntryFault.TheVariants.{NoGoal, NoModes}
use Rattle.sheet9.specs.declared.refusal.TableName.TheVariants.{Passes}
use Rattle.sheet9.specs.Modes.{mode_named, with_names}
use Rattle.sheet9.specs.Refusal.{Fault, NoTable, Entry, and_then}

-- the modes on the way to a goal by its entry: those of the profile, and those that the entry's list names
abbrev pub way_with : List ℕ → Mode → Option Items → Result ModeSet Fault
way_with key goal None = Err (Entry Passes key NoModes)
way_with key goal (Some names) = with_names Passes key (way goal) names

-- the ways to the goals in the order of the modes, with those of some entries in place of theirs; or what is wrong with the first
-- entry that is wrong, in the order of the keys
abbrev pub passes_of : List ModeSet → Members → Result (List ModeSet) Fault
passes_of ways no_members = Ok ways
passes_of ways (member key value rest) =
    and_then (ok_or (mode_named key) (Entry Passes key NoGoal))
    (λ goal. and_then (way_with key goal (as_array value)) (λ way. passes_of (slice_set ways (index_of goal) way) rest))

-- the ways of the rules
abbrev pub own_ways : List ModeSet
own_ways = map way every_mode

-- what the key `passes` says: the ways of the rules where it is not there
abbrev pub passes_in : Option Data → Result (List ModeSet) Fault
passes_in None = Ok own_ways
passes_in (Some value) = in_table (as_table value)
  where
    in_table : Option Members → Result (List ModeSet) Fault
    in_table None = Err (NoTable Passes)
    in_table (Some entries) = passes_of own_ways entries
