-- What several sheets say together, and what two say differently.
use Rattle.std.specs.Prelude.{◌≡◌, ◌≢◌, ◌⊎◌, ◌&&◌, ℕ, Bool, true, false, not, ⊤, List, [], ◌∷◌, ◌++◌, map, take, slice_get, slice_index_or, Option, Some, None, is_some, Ok}
use Rattle.std.specs.List.{fold}
use Rattle.deck9.specs.declared.deck.Deck.{Deck}
use Rattle.deck9.specs.declared.mode.Mode.{Mode}
use Rattle.deck9.specs.declared.mode_set.ModeSet.{ModeSet}
use Rattle.deck9.specs.Mode.{every_mode, index_of}
use Rattle.deck9.specs.ModeCalls.{way}
use Rattle.deck9.specs.ModeSet.{either, modes}
use Rattle.sheet9.specs.declared.clash.Clash.{Clash}
use Rattle.sheet9.specs.declared.clash.Clash.TheVariants as clash
use Rattle.sheet9.specs.declared.refusal.Refusal.{Refusal}
use Rattle.sheet9.specs.declared.refusal.SheetError.TheVariants as error
use Rattle.sheet9.specs.declared.refusal.TableName.{TableName}
use Rattle.sheet9.specs.declared.refusal.TableName.TheVariants.{Forgets, Goals, Loses, Names, Passes, Replies, Runs}
use Rattle.sheet9.specs.declared.sheets.SheetsError.{SheetsError}
use Rattle.sheet9.specs.declared.sheets.SheetsError.TheVariants as sheets
use Rattle.sheet9.specs.Entries.{said_at}
use Rattle.sheet9.specs.Goals.{goes_with}
use Rattle.sheet9.specs.Refusal.{NamesFaultLine, Reports}
use Rattle.sheet9.specs.Sheet.{IsDeckOf, Sheet, sheet_of}

-- what one says, where it says something, and else what another does
abbrev pub either_said : {A : Type 0} → Option A → Option A → Option A
either_said (Some said) other = Some said
either_said None other = other

-- the modes on the way to a goal, of the ways to all in the order of the modes
abbrev pub way_in : List ModeSet → Mode → ModeSet
way_in ways goal = slice_index_or ways (index_of goal) (modes 0)

-- those that are on it by either
abbrev pub both_ways : List ModeSet → List ModeSet → List ModeSet
both_ways one other = map (λ goal. either (way_in one goal) (way_in other goal)) every_mode

-- what two sheets say together: each table has the entries of both
abbrev pub together : Sheet → Sheet → Sheet
together one more = record {
  forgets = more.forgets ++ one.forgets;
  goals = more.goals ++ one.goals;
  loses = more.loses ++ one.loses;
  names = more.names ++ one.names;
  ways = both_ways one.ways more.ways;
  replies = more.replies ++ one.replies;
  runs = more.runs ++ one.runs;
}

-- both say something, and not the same
abbrev pub Differ : {A : Type 0} → Option A → Option A → Type 0
Differ (Some one) (Some other) = one ≢ other
Differ _ _ = ⊥

-- where both say something, they say the same
abbrev pub SaySame : {A : Type 0} → Option A → Option A → Type 0
SaySame (Some one) (Some other) = one ≡ other
SaySame _ _ = ⊤

-- the same of two tables, at each command
abbrev pub AgreeOn : {A : Type 0} → List (ℕ × A) → List (ℕ × A) → Type 0
AgreeOn one other = (head : ℕ) → SaySame (said_at one head) (said_at other head)

-- two ways to a goal are different, and neither is that of the rules, which a sheet has that names no mode for the goal
abbrev pub OtherWay : Mode → ModeSet → ModeSet → Type 0
OtherWay goal one other = (one ≢ other) × (one ≢ way goal) × (other ≢ way goal)

-- they are not
abbrev pub SameWay : Mode → ModeSet → ModeSet → Type 0
SameWay goal one other = (one ≡ other) ⊎ ((one ≡ way goal) ⊎ (other ≡ way goal))

-- one sheet names goals for a command, and another says that it forgets what does not go with that
abbrev pub goals_forget : Sheet → Sheet → ℕ → Bool
goals_forget one other head = is_some (said_at one.goals head) && not (goes_with (said_at other.forgets head))

-- two sheets say nothing different of any key
pub record Agree (one other : Sheet) : Type 0 where
  pub forgets : AgreeOn one.forgets other.forgets
  pub goals : AgreeOn one.goals other.goals
  pub leads : (head : ℕ) → goals_forget one other head ≡ false
  pub leads_too : (head : ℕ) → goals_forget other one head ≡ false
  pub loses : AgreeOn one.loses other.loses
  pub names : AgreeOn one.names other.names
  pub ways : (goal : Mode) → SameWay goal (way_in one.ways goal) (way_in other.ways goal)
  pub replies : AgreeOn one.replies other.replies
  pub runs : AgreeOn one.runs other.runs

-- two sheets say different things of a command in a table
abbrev pub DifferIn : Sheet → Sheet → TableName → ℕ → Type 0
DifferIn one other Forgets head = Differ (said_at one.forgets head) (said_at other.forgets head)
DifferIn one other Goals head = Differ (said_at one.goals head) (said_at other.goals head)
DifferIn one other Loses head = Differ (said_at one.loses head) (said_at other.loses head)
DifferIn one other Names head = Differ (said_at one.names head) (said_at other.names head)
DifferIn one other Passes head = ⊥
DifferIn one other Replies head = Differ (said_at one.replies head) (said_at other.replies head)
DifferIn one other Runs head = Differ (said_at one.runs head) (said_at other.runs head)

-- they do so of this
abbrev pub DifferAt : Sheet → Sheet → Clash → Type 0
DifferAt one other (clash.Entry table head) = DifferIn one other table head
DifferAt one other (clash.GoalsForget head) = (goals_forget one other head ≡ true) ⊎ (goals_forget other one head ≡ true)
DifferAt one other (clash.Way goal) = OtherWay goal (way_in one.ways goal) (way_in other.ways goal)

-- each of these sheets agrees with one
abbrev pub EachAgrees : List Sheet → Sheet → Type 0
EachAgrees [] one = ⊤
EachAgrees (sheet ∷ rest) one = Agree sheet one × EachAgrees rest one

-- a sheet agrees with each of these
abbrev pub AgreesWithEach : Sheet → List Sheet → Type 0
AgreesWithEach one [] = ⊤
AgreesWithEach one (sheet ∷ rest) = Agree one sheet × AgreesWithEach one rest

-- each of these sheets agrees with those behind it
abbrev pub AllAgree : List Sheet → Type 0
AllAgree [] = ⊤
AllAgree (sheet ∷ rest) = AgreesWithEach sheet rest × AllAgree rest

-- the texts are these sheets, and they agree
pub record AreRead (texts : List (List ℕ)) (sheets : List Sheet) : Type 0 where
  pub are : map sheet_of texts ≡ map (λ sheet. Ok sheet) sheets
  pub agree : AllAgree sheets

-- the texts are sheets that agree, and a deck does what all of them say together
pub record IsDeckOfAll (texts : List (List ℕ)) (deck : Deck) : Type 0 where
  pub first : Sheet
  pub rest : List Sheet
  pub read : AreRead texts (first ∷ rest)
  pub does : IsDeckOf (fold together first rest) deck

-- of these sheets that at a place is the first that says something different from one, and it does so of this
pub record IsFirstClash (sheets : List Sheet) (place : ℕ) (one : Sheet) (of : Clash) : Type 0 where
  pub before : EachAgrees (take place sheets) one
  pub sheet : Sheet
  pub is_at : slice_get sheets place ≡ Some sheet
  pub differ : DifferAt sheet one of

-- the texts before this one are sheets that agree, and this one is none, for this reason
pub record IsRefusedAt (texts : List (List ℕ)) (at : ℕ) (refusal : Refusal) : Type 0 where
  pub sheets : List Sheet
  pub read : AreRead (take at texts) sheets
  pub text : List ℕ
  pub is_at : slice_get texts at ≡ Some text
  pub reports : Reports (sheet_of text) (error.Refused refusal)
  pub line : NamesFaultLine text (error.Refused refusal)

-- they are, and this one is a sheet that says something different from one of them
pub record ClashesAt (texts : List (List ℕ)) (at earlier : ℕ) (of : Clash) : Type 0 where
  pub sheets : List Sheet
  pub read : AreRead (take at texts) sheets
  pub text : List ℕ
  pub is_at : slice_get texts at ≡ Some text
  pub sheet : Sheet
  pub is_sheet : sheet_of text ≡ Ok sheet
  pub clashes : IsFirstClash sheets earlier sheet of

-- an error is about the first text that is no sheet, or that says something different from one before it; that memory was refused says
-- nothing of the texts
abbrev pub ReportsOf : List (List ℕ) → SheetsError → Type 0
ReportsOf texts (sheets.Refused at refusal) = IsRefusedAt texts at refusal
ReportsOf texts (sheets.Clash at earlier of) = ClashesAt texts at earlier of
ReportsOf texts sheets.OutOfMemory = ⊤
