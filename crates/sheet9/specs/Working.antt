-- Words that only private functions cite.
use Rattle.std.specs.Prelude.{◌≡◌, ℕ, List, [], ◌∷◌, None, Result, Err, ⊤, IsOkAnd, option_map}
use Rattle.std.specs.BTreeMap.{BTreeMap, get}
use Rattle.std.specs.Ordering.{nat_cmp}
use Rattle.sheet9.specs.declared.refusal.SheetError.{SheetError}
use Rattle.sheet9.specs.declared.refusal.SheetError.TheVariants as error
use Rattle.sheet9.specs.Entries.{said_at}
use Rattle.deck9.specs.declared.deck.Forgotten.{Forgotten}
use Rattle.deck9.specs.declared.mode_set.ModeSet.{ModeSet}
use Rattle.sheet9.specs.declared.effects.Effects.{Effects}
use Rattle.sheet9.specs.declared.said.Said.{Said}
use Rattle.sheet9.specs.Refusal.{Fault, fault_of, line_in}
use Rattle.sheet9.specs.Sheet.{Sheet}

-- an error of a document, which names no line: it is about this fault, or memory was refused
abbrev pub Says : Fault → SheetError → Type 0
Says fault (error.Refused r) = (fault ≡ fault_of r) × (line_in r ≡ None)
Says fault error.OutOfMemory = ⊤

-- the same where there is this meaning or fault
abbrev pub ReportsWithoutLine : {A : Type 0} → Result A Fault → SheetError → Type 0
ReportsWithoutLine meaning (error.Refused r) = (meaning ≡ Err (fault_of r)) × (line_in r ≡ None)
ReportsWithoutLine meaning error.OutOfMemory = ⊤

-- a map has what is said of commands, and nothing else; what is said is read from the map's values
abbrev pub HasSaid : {V A : Type 0} → (V → A) → Result (List (ℕ × A)) Fault → BTreeMap ℕ V → Type 0
HasSaid read meaning m = IsOkAnd meaning (λ said. (head : ℕ) → option_map read (get nat_cmp m head) ≡ said_at said head)

-- commands do what is said of them, by two tables
pub record AreEffectsOf (said : List (ℕ × Forgotten) × List (ℕ × ModeSet)) (effects : Effects) : Type 0 where
  pub forgets : (head : ℕ) → get nat_cmp effects.forgets head ≡ said_at said.0 head
  pub goals : (head : ℕ) → get nat_cmp effects.goals head ≡ said_at said.1 head

-- the tables have what a sheet says
pub record IsSaid (sheet : Sheet) (said : Said) : Type 0 where
  pub forgets : (head : ℕ) → get nat_cmp said.forgets head ≡ said_at sheet.forgets head
  pub goals : (head : ℕ) → get nat_cmp said.goals head ≡ said_at sheet.goals head
  pub loses : (head : ℕ) → get nat_cmp said.loses head ≡ said_at sheet.loses head
  pub names : (head : ℕ) → option_map (λ name. name.items) (get nat_cmp said.names head) ≡ said_at sheet.names head
  pub ways : said.ways ≡ sheet.ways
  pub replies : (head : ℕ) → option_map (λ forms. forms.items) (get nat_cmp said.replies head) ≡ said_at sheet.replies head
  pub runs : (head : ℕ) → option_map (λ run. run.0) (get nat_cmp said.runs head) ≡ said_at sheet.runs head

-- each has what its sheet says
abbrev pub AreSaid : List Sheet → List Said → Type 0
AreSaid [] [] = ⊤
AreSaid (sheet ∷ sheets) (said ∷ all) = IsSaid sheet said × AreSaid sheets all
AreSaid _ _ = ⊥
