-- What a table says whose keys name commands.
use Rattle.std.specs.Prelude.{ℕ, ◌==◌, if◌then◌else◌, List, [], ◌∷◌, Option, Some, None, Result, Ok, Err, is_some}
use Rattle.std.specs.Map.{lookup}
use Rattle.toml.specs.Data.{Data, Members, no_members, member, as_table}
use Rattle.sheet9.specs.declared.refusal.EntryFault.{EntryFault}
use Rattle.sheet9.specs.declared.refusal.EntryFault.TheVariants.{NotTwoBytes, Reply, NamedTwice}
use Rattle.sheet9.specs.declared.refusal.TableName.{TableName}
use Rattle.sheet9.specs.declared.refusal.TableName.TheVariants.{Replies}
use Rattle.sheet9.specs.Head.{head_named, head_or_selector, is_reply}
use Rattle.sheet9.specs.Refusal.{Fault, NoTable, Entry, and_then}

-- a table whose keys name commands: its name, what is wrong with a command there, and what the value of a key says
pub record CommandTable (A : Type 0) : Type 0 where
  pub name : TableName
  pub unfit : ℕ → Option EntryFault
  pub value_of : List ℕ → Data → Result A Fault

-- the command that a key of a table names: in the table of the replies also one with a selector
abbrev pub named_by : TableName → List ℕ → Option ℕ
named_by Replies key = head_or_selector key
named_by _ key = head_named key

-- the command that a key names
abbrev pub command_in : {A : Type 0} → CommandTable A → List ℕ → Result ℕ Fault
command_in table key = named (named_by table.name key)
  where
    fitting : ℕ → Option EntryFault → Result ℕ Fault
    fitting head None = Ok head
    fitting head (Some fault) = Err (Entry table.name key fault)

    named : Option ℕ → Result ℕ Fault
    named None = Err (Entry table.name key NotTwoBytes)
    named (Some head) = if is_reply head then Err (Entry table.name key Reply) else fitting head (table.unfit head)

-- what is said of a command
abbrev pub said_at : {A : Type 0} → List (ℕ × A) → ℕ → Option A
said_at said head = lookup (λ h. h == head) said

-- what is said, and one entry more: a command and what is said of it
abbrev pub with_entry : {A : Type 0} → TableName → List ℕ → List (ℕ × A) → ℕ → A → Result (List (ℕ × A)) Fault
with_entry name key said head value = if is_some (said_at said head) then Err (Entry name key NamedTwice) else Ok ((head, value) ∷ said)

-- what is said before some entries, and what they say; or what is wrong with the first that is wrong, in the order of the keys
abbrev pub entries_of : {A : Type 0} → CommandTable A → List (ℕ × A) → Members → Result (List (ℕ × A)) Fault
entries_of table said no_members = Ok said
entries_of table said (member key value rest) =
    and_then (command_in table key)
    (λ head. and_then (table.value_of key value)
    (λ read. and_then (with_entry table.name key said head read) (λ more. entries_of table more rest)))

-- what the table's value says: nothing where it is not there
abbrev pub table_of : {A : Type 0} → CommandTable A → Option Data → Result (List (ℕ × A)) Fault
table_of {A = A} table None = Ok []
table_of {A = A} table (Some value) = entries (as_table value)
  where
    entries : Option Members → Result (List (ℕ × A)) Fault
    entries None = Err (NoTable table.name)
    entries (Some members) = entries_of table [] members
