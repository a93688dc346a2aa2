-- What the table [names] says: what some commands are called that are not listed.
use Rattle.std.specs.Prelude.{ℕ, ◌==◌, ◌&&◌, ◌||◌, if◌then◌else◌, Bool, true, false, not, nat_lt, List, [], ◌∷◌, length, Option, Some, None, Result, Ok, Err}
use Rattle.std.specs.Char.{is_ascii_digit, is_ascii_uppercase}
use Rattle.std.specs.List.{list_all}
use Rattle.toml.specs.Data.{as_str}
use Rattle.block9.specs.Command.{is_listed_head, is_one_of}
use Rattle.sheet9.specs.declared.refusal.EntryFault.{EntryFault}
use Rattle.sheet9.specs.declared.refusal.EntryFault.TheVariants.{Listed, NoText, NameCharacter, NameLength, NameStart, NameBlanks}
use Rattle.sheet9.specs.declared.refusal.TableName.TheVariants.{Names}
use Rattle.sheet9.specs.Entries.{CommandTable}
use Rattle.sheet9.specs.Refusal.{Fault, Entry}

-- a character of a name: a capital letter, a digit, a blank (32), + (43), - (45) or / (47)
abbrev pub is_of_name : ℕ → Bool
is_of_name c = is_ascii_uppercase c || is_ascii_digit c || is_one_of (32 ∷ 43 ∷ 45 ∷ 47 ∷ []) c

-- a name begins with a letter
abbrev pub begins_with_letter : List ℕ → Bool
begins_with_letter [] = false
begins_with_letter (c ∷ rest) = is_ascii_uppercase c

-- behind each blank stands a character that is none
abbrev pub has_blanks_apart : List ℕ → Bool
has_blanks_apart [] = true
has_blanks_apart (c ∷ rest) = not (c == 32 && begins_blank rest) && has_blanks_apart rest
  where
    begins_blank : List ℕ → Bool
    begins_blank [] = true
    begins_blank (next ∷ rest) = next == 32

-- what is wrong with a name
abbrev pub name_fault : List ℕ → Option EntryFault
name_fault name =
    if not (list_all is_of_name name) then Some NameCharacter
    else (if not (begins_with_letter name) then Some NameStart
    else (if nat_lt 24 (length name) then Some NameLength
    else (if not (has_blanks_apart name) then Some NameBlanks else None)))

-- the name that a value is, under a command's key; the value is given as a text, where it is one
abbrev pub name_in : List ℕ → Option (List ℕ) → Result (List ℕ) Fault
name_in key None = Err (Entry Names key NoText)
name_in key (Some name) = unless (name_fault name)
  where
    unless : Option EntryFault → Result (List ℕ) Fault
    unless None = Ok name
    unless (Some fault) = Err (Entry Names key fault)

-- the table
abbrev pub names_table : CommandTable (List ℕ)
names_table = record {
  name = Names;
  unfit = λ head. if is_listed_head head then Some Listed else None;
  value_of = λ key value. name_in key (as_str value);
}
