-- The table `[goals]`: to which modes some commands may lead that are not listed.
use Rattle.std.specs.Prelude.{ℕ, Bool, true, false, if◌then◌else◌, List, [], Option, Some, None, Result, Ok, Err}
use Rattle.toml.specs.Data.{Data, Members, no_members, member, as_array, as_table}
use Rattle.block9.specs.Command.{is_listed_head}
use Rattle.deck9.specs.declared.deck.Forgotten.{Forgotten}
use Rattle.deck9.specs.declared.deck.Forgotten.TheVariants.{Nothing, Registers}
use Rattle.deck9.specs.declared.mode_set.ModeSet.{ModeSet}
use Rattle.sheet9.specs.declared.refusal.EntryFault.{EntryFault}
use Rattle.sheet9.specs.declared.refusal.EntryFault.TheVariants.{ForgetsMore, HasEffect, NotOfTransport}
use Rattle.sheet9.specs.declared.refusal.TableName.TheVariants.{Goals}
use Rattle.sheet9.specs.Entries.{CommandTable, command_in, with_entry}
use Rattle.sheet9.specs.Head.{is_transport}
use Rattle.sheet9.specs.Modes.{modes_in}
use Rattle.sheet9.specs.Refusal.{Fault, NoTable, Entry, and_then}

-- a listed command leads where the rules say, and only one of group 2 may lead to a mode
abbrev pub unfit_goal : ℕ → Option EntryFault
unfit_goal head = if is_listed_head head then Some HasEffect else (if is_transport head then None else Some NotOfTransport)

-- what an entry says by itself
abbrev pub goals_table : CommandTable ModeSet
goals_table = record { name = Goals; unfit = unfit_goal; value_of = λ key value. modes_in Goals key (as_array value) }

-- such a command forgets nothing else but the registers
abbrev pub goes_with : Option Forgotten → Bool
goes_with None = true
goes_with (Some Nothing) = true
goes_with (Some Registers) = true
goes_with (Some _) = false

-- what an entry says, where that goes with what is said to be forgotten at its command
abbrev pub unless_more : List ℕ → Option Forgotten → ModeSet → Result ModeSet Fault
unless_more key forgotten goals = if goes_with forgotten then Ok goals else Err (Entry Goals key ForgetsMore)

-- what is said before some entries, and what they say, with what is said to be forgotten at commands; or what is wrong with the first
-- that is wrong, in the order of the keys
abbrev pub goals_of : (ℕ → Option Forgotten) → List (ℕ × ModeSet) → Members → Result (List (ℕ × ModeSet)) Fault
goals_of forgotten said no_members = Ok said
goals_of forgotten said (member key value rest) =
    and_then (command_in goals_table key)
    (λ head. and_then (modes_in Goals key (as_array value))
    (λ read. and_then (unless_more key (forgotten head) read)
    (λ goals. and_then (with_entry Goals key said head goals) (λ more. goals_of forgotten more rest))))

-- what the key `goals` says: nothing where it is not there
abbrev pub goals_in : (ℕ → Option Forgotten) → Option Data → Result (List (ℕ × ModeSet)) Fault
goals_in forgotten None = Ok []
goals_in forgotten (Some value) = in_table (as_table value)
  where
    in_table : Option Members → Result (List (ℕ × ModeSet)) Fault
    in_table None = Err (NoTable Goals)
    in_table (Some entries) = goals_of forgotten [] entries
