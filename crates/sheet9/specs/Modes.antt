-- The modes that a list names.
use Rattle.std.specs.Prelude.{ℕ, List, Option, Some, None, Result, Ok, Err, find, ok_or}
use Rattle.std.specs.Str.{bytes_eq}
use Rattle.toml.specs.Data.{Items, no_items, item, as_str}
use Rattle.deck9.specs.declared.mode.Mode.{Mode}
use Rattle.deck9.specs.declared.mode_set.ModeSet.{ModeSet}
use Rattle.deck9.specs.Mode.{every_mode, name_of}
use Rattle.deck9.specs.ModeSet.{bit_of, either, modes}
use Rattle.sheet9.specs.declared.refusal.EntryFault.TheVariants.{EmptyModes, NoModes}
use Rattle.sheet9.specs.declared.refusal.ItemFault.TheVariants.{NoMode}
use Rattle.sheet9.specs.declared.refusal.TableName.{TableName}
use Rattle.sheet9.specs.Refusal.{Fault, Entry, Item, and_then}

-- the mode with this name
abbrev pub mode_named : List ℕ → Option Mode
mode_named name = find (λ m. bytes_eq name (name_of m)) every_mode

-- the mode that an item of a list names, under a key of a table; the item is given as a text, where it is one
abbrev pub mode_in : TableName → List ℕ → Option (List ℕ) → Result Mode Fault
mode_in table key None = Err (Entry table key NoModes)
mode_in table key (Some name) = ok_or (mode_named name) (Item table key name NoMode)

-- a set with the modes that a list names; or what is wrong with the first item that is wrong
abbrev pub with_names : TableName → List ℕ → ModeSet → Items → Result ModeSet Fault
with_names table key set no_items = Ok set
with_names table key set (item value rest) =
    and_then (mode_in table key (as_str value)) (λ mode. with_names table key (either set (modes (bit_of mode))) rest)

-- the modes that a list names, which is not empty
abbrev pub modes_in : TableName → List ℕ → Option Items → Result ModeSet Fault
modes_in table key None = Err (Entry table key NoModes)
modes_in table key (Some no_items) = Err (Entry table key EmptyModes)
modes_in table key (Some names) = with_names table key (modes 0) names
