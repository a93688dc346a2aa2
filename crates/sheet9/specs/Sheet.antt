-- What a text means as a deck sheet, by the toml library's own definition of a document.
use Rattle.std.specs.Prelude.{◌≡◌, ℕ, ◌||◌, if◌then◌else◌, Bool, List, Option, Some, None, is_some, option_map, Result, Ok, Err, codes}
use Rattle.std.specs.BTreeMap.{get}
use Rattle.std.specs.Ordering.{nat_cmp}
use Rattle.std.specs.Str.{bytes_eq, is_utf8}
use Rattle.toml.specs.Data.{Data, Members, no_members, member, get_member}
use Rattle.toml.specs.Parse.{parse_document}
use Rattle.block9.specs.declared.replies.ReplyForm.{ReplyForm}
use Rattle.block9.specs.Command.{is_listed_head}
use Rattle.deck9.specs.declared.deck.Deck.{Deck}
use Rattle.deck9.specs.declared.deck.Forgotten.{Forgotten}
use Rattle.deck9.specs.declared.going.Lost.{Lost}
use Rattle.deck9.specs.declared.mode_set.ModeSet.{ModeSet}
use Rattle.sheet9.specs.Acts.{going_of}
use Rattle.sheet9.specs.Entries.{said_at, table_of}
use Rattle.sheet9.specs.Forgets.{forgets_table}
use Rattle.sheet9.specs.Goals.{goals_in}
use Rattle.sheet9.specs.Loses.{loses_table}
use Rattle.sheet9.specs.Names.{names_table}
use Rattle.sheet9.specs.Passes.{passes_in}
use Rattle.sheet9.specs.Refusal.{Fault, NotToml, UnknownKey, and_then}
use Rattle.sheet9.specs.Replies.{replies_table}
use Rattle.sheet9.specs.Runs.{runs_table}

-- what a sheet says of commands: what is forgotten at them, to which modes they may lead, which registers the deck may lose after them,
-- their names, the forms of reply that they take, and which modes it may show after them; and the modes on the way to each goal, in the
-- order of the modes
pub record Sheet : Type 0 where
  pub forgets : List (ℕ × Forgotten)
  pub goals : List (ℕ × ModeSet)
  pub loses : List (ℕ × Lost)
  pub names : List (ℕ × List ℕ)
  pub ways : List ModeSet
  pub replies : List (ℕ × List ReplyForm)
  pub runs : List (ℕ × ModeSet)

-- a key that a sheet may have at its top
abbrev pub is_known : List ℕ → Bool
is_known key =
    bytes_eq key (codes "forgets") || bytes_eq key (codes "goals") || bytes_eq key (codes "loses") || bytes_eq key (codes "names") || bytes_eq key (codes "passes")
    || bytes_eq key (codes "replies") || bytes_eq key (codes "runs")

-- the first other key, in the order of the keys
abbrev pub unknown_key : Members → Option (List ℕ)
unknown_key no_members = None
unknown_key (member key value rest) = if is_known key then unknown_key rest else Some key

-- what is said to be forgotten at commands, and to which modes they may lead, by the values of these two keys
abbrev pub effects_of : Option Data → Option Data → Result (List (ℕ × Forgotten) × List (ℕ × ModeSet)) Fault
effects_of forgets goals =
    and_then (table_of forgets_table forgets) (λ forgotten. and_then (goals_in (said_at forgotten) goals) (λ leads. Ok (forgotten, leads)))

-- what the tables of a document mean
abbrev pub tables_of : Members → Result Sheet Fault
tables_of top =
    and_then (effects_of (get_member (codes "forgets") top) (get_member (codes "goals") top))
    (λ effects. and_then (table_of loses_table (get_member (codes "loses") top))
    (λ loses. and_then (table_of names_table (get_member (codes "names") top))
    (λ names. and_then (passes_in (get_member (codes "passes") top))
    (λ ways. and_then (table_of replies_table (get_member (codes "replies") top))
    (λ replies. and_then (table_of runs_table (get_member (codes "runs") top))
    (λ runs. Ok (record { forgets = effects.0; goals = effects.1; loses = loses; names = names; ways = ways; replies = replies; runs = runs })))))))

-- what a document means: the keys at its top come first
abbrev pub meaning_of : Members → Result Sheet Fault
meaning_of top = meaning (unknown_key top)
  where
    meaning : Option (List ℕ) → Result Sheet Fault
    meaning (Some key) = Err (UnknownKey key)
    meaning None = tables_of top

-- the document that a text is: none where it is not TOML, or not UTF-8
abbrev pub document_of : List ℕ → Option Members
document_of text = if is_utf8 text then parse_document text else None

-- what a text means as a sheet, or the first thing that is wrong with it
abbrev pub sheet_of : List ℕ → Result Sheet Fault
sheet_of text = in_document (document_of text)
  where
    in_document : Option Members → Result Sheet Fault
    in_document None = Err NotToml
    in_document (Some top) = meaning_of top

-- a command has an effect beside which it forgets: a listed one by the rules, another where some goals are named for it
abbrev pub is_beside : (ℕ → Option ModeSet) → ℕ → Bool
is_beside goals head = is_listed_head head || is_some (goals head)

-- a deck does what a sheet says: at a command with an effect it forgets beside that, and after a command that has a key in either table,
-- [runs] or [loses], it may do by itself what both say
pub record IsDeckOf (sheet : Sheet) (deck : Deck) : Type 0 where
  pub forgets : (head : ℕ) → get nat_cmp deck.forgets head ≡ (if is_beside (said_at sheet.goals) head then None else said_at sheet.forgets head)
  pub also_forgets : (head : ℕ) → get nat_cmp deck.also_forgets head ≡ (if is_beside (said_at sheet.goals) head then said_at sheet.forgets head else None)
  pub goals : (head : ℕ) → get nat_cmp deck.goals head ≡ said_at sheet.goals head
  pub acts : (head : ℕ) → get nat_cmp deck.acts head ≡ going_of (said_at sheet.runs head) (said_at sheet.loses head)
  pub names : (head : ℕ) → option_map (λ name. name.items) (get nat_cmp deck.names head) ≡ said_at sheet.names head
  pub ways : deck.ways ≡ sheet.ways
  pub replies : (head : ℕ) → option_map (λ forms. forms.items) (get nat_cmp deck.replies head) ≡ said_at sheet.replies head
