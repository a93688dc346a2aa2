-- What may be wrong with the text of a sheet, and how it is told.
use Rattle.std.specs.Prelude.{◌≡◌, ℕ, ◌+◌, ◌≤◌, ◌==◌, List, length, take, ⊤, IfSome, Option, Some, None, Result, Ok, Err, string_bytes}
use Rattle.std.specs.List.{count_by}
use Rattle.std.specs.Str.{IsUtf8, IsValidUpTo}
use Rattle.sheet9.specs.declared.refusal.EntryFault.{EntryFault}
use Rattle.sheet9.specs.declared.refusal.ItemFault.{ItemFault}
use Rattle.sheet9.specs.declared.refusal.TableName.{TableName}
use Rattle.sheet9.specs.declared.refusal.Refusal.{Refusal}
use Rattle.sheet9.specs.declared.refusal.Refusal.TheVariants as refusal
use Rattle.sheet9.specs.declared.refusal.SheetError.{SheetError}
use Rattle.sheet9.specs.declared.refusal.SheetError.TheVariants as error

-- what is wrong with a text, with the bytes of the keys and items that it has there
pub data Fault : Type 0 where
  NotToml : Fault
  UnknownKey : List ℕ → Fault
  NoTable : TableName → Fault
  Entry : TableName → List ℕ → EntryFault → Fault
  Item : TableName → List ℕ → List ℕ → ItemFault → Fault

-- what is made of a value, where nothing is wrong until then
abbrev pub and_then : {A B : Type 0} → Result A Fault → (A → Result B Fault) → Result B Fault
and_then (Ok value) f = f value
and_then (Err fault) f = Err fault

-- what a refusal says is wrong
abbrev pub fault_of : Refusal → Fault
fault_of (refusal.NotToml line) = NotToml
fault_of (refusal.UnknownKey key) = UnknownKey (string_bytes key)
fault_of (refusal.NoTable table) = NoTable table
fault_of (refusal.Entry table key fault) = Entry table (string_bytes key) fault
fault_of (refusal.Item table key item fault) = Item table (string_bytes key) (string_bytes item) fault

-- where there is this meaning or fault, the error is about that fault; that memory was refused says nothing of the text
abbrev pub Reports : {A : Type 0} → Result A Fault → SheetError → Type 0
Reports meaning (error.Refused r) = meaning ≡ Err (fault_of r)
Reports meaning error.OutOfMemory = ⊤

-- the line, counted from 1, of the place after these bytes
abbrev pub line_after : List ℕ → ℕ
line_after bytes = 1 + count_by (λ byte. byte == 10) bytes

-- the text has a line with this number
abbrev pub HasLine : List ℕ → ℕ → Type 0
HasLine text line = (n : ℕ) × (n ≤ length text) × (line ≡ line_after (take n text))

-- a line at which a text is not TOML: one that it has, and where it is not UTF-8, the line of the first byte that is not
pub record IsFaultLine (text : List ℕ) (line : ℕ) : Type 0 where
  pub has : HasLine text line
  pub not_utf8 : ¬ (IsUtf8 text) → (n : ℕ) × IsValidUpTo text n × (line ≡ line_after (take n text))

-- the line that a refusal names
abbrev pub line_in : Refusal → Option ℕ
line_in (refusal.NotToml line) = Some line
line_in _ = None

-- a refusal that names a line names such a one
abbrev pub NamesFaultLine : List ℕ → SheetError → Type 0
NamesFaultLine text (error.Refused r) = IfSome (line_in r) (IsFaultLine text)
NamesFaultLine text error.OutOfMemory = ⊤
