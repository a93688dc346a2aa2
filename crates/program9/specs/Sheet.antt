-- How a deck's sheets are read, before the capture.
use Rattle.std.specs.Prelude.{◌≡◌, ◌⊎◌, ⊤, List, [], ◌∷◌, Option, Some, None, Result, Ok, Err, IfSome, String, map, slice_get, take, ℕ}
use Rattle.std.specs.Bool.{MatchBool}
use Rattle.std.specs.Global.{Global}
use Rattle.std.specs.IoError.{error_kind}
use Rattle.std.specs.String.{string_bytes}
use Rattle.std.specs.declared.io.Error.{Error}
use Rattle.deck9.specs.declared.deck.Deck.{Deck}
use Rattle.sheet9.specs.declared.refusal.Refusal.{Refusal}
use Rattle.sheet9.specs.declared.sheets.SheetsError.{SheetsError}
use Rattle.sheet9.specs.declared.sheets.SheetsError.TheVariants as sheets
use Rattle.sheet9.specs.Sheets.{IsDeckOfAll, ReportsOf}
use Rattle.program9.specs.declared.ending.ClashingSheets.{ClashingSheets}
use Rattle.program9.specs.declared.ending.Message.TheVariants as message
use Rattle.program9.specs.declared.ending.Outcome.{Outcome}
use Rattle.program9.specs.Opening.{no_memory, outcome_unopened, why_of}
use Rattle.program9.specs.Shipped.{is_shipped}

-- the end where a sheet was not opened or its reader failed: out of memory, or that this file can't be opened, and why
abbrev pub EndsNotRead : List ℕ → Error → Outcome → Type 0
EndsNotRead name e end =
    (end ≡ no_memory)
    ⊎ ((file : String Global) × (string_bytes file ≡ name)
    × (end ≡ record { status = 4; message = message.CannotOpenSheet (record { file = Some file; why = why_of (error_kind e) }) }))

-- the end where the text of a sheet is none
abbrev pub outcome_no_sheet : String Global → Refusal → Outcome
outcome_no_sheet file refusal = record { status = 3; message = message.UnreadableSheet (record { file = file; refusal = refusal }) }

-- these are the names, and that at this place is the file's
abbrev pub IsNamed : List (List ℕ) → ℕ → String Global → Type 0
IsNamed names place file = slice_get names place ≡ Some (string_bytes file)

-- the end that tells of an error, by the names of the sheets; or out of memory. How the key of a clash is told is tested
abbrev pub IsToldOf : List (List ℕ) → SheetsError → Outcome → Type 0
IsToldOf names (sheets.Refused at refusal) end = ((file : String Global) × IsNamed names at file × (end ≡ outcome_no_sheet file refusal)) ⊎ (end ≡ no_memory)
IsToldOf names (sheets.Clash at earlier clash) end =
    ((told : ClashingSheets) × IsNamed names at told.file × IsNamed names earlier told.earlier × (end ≡ record { status = 3; message = message.ClashingSheets told }))
    ⊎ (end ≡ no_memory)
IsToldOf names sheets.OutOfMemory end = end ≡ no_memory

-- what the reader of a sheet gives is its text, where that is known
abbrev pub IsReadFrom : {S : Type 0} → (String Global → Result S Error → Type 0) → (S → Option (List ℕ)) → String Global → List ℕ → Type 0
IsReadFrom {S = S} opens coming file text = (reader : S) × opens file (Ok reader) × IfSome (coming reader) (λ known. text ≡ known)

-- a sheet has this text: one that the program has in itself is not opened (which text it has is tested), and any other is read
abbrev pub IsTextOf : {S : Type 0} → (String Global → Result S Error → Type 0) → (S → Option (List ℕ)) → String Global → List ℕ → Type 0
IsTextOf opens coming file text = MatchBool (is_shipped (string_bytes file)) ⊤ (IsReadFrom opens coming file text)

-- the same of each
abbrev pub AreTexts : {S : Type 0} → (String Global → Result S Error → Type 0) → (S → Option (List ℕ)) → List (String Global) → List (List ℕ) → Type 0
AreTexts opens coming [] [] = ⊤
AreTexts opens coming (file ∷ files) (text ∷ texts) = IsTextOf opens coming file text × AreTexts opens coming files texts
AreTexts opens coming _ _ = ⊥

-- a sheet that was opened so was not read, and this is the end
abbrev pub EndsOpened : {S : Type 0} → String Global → Result S Error → Outcome → Type 0
EndsOpened file (Err e) end = EndsNotRead (string_bytes file) e end
EndsOpened file (Ok reader) end = (e : Error) × EndsNotRead (string_bytes file) e end

-- a sheet was not opened, or not read to its end, and this is the end; or memory was refused for its text
abbrev pub EndsUnread : {S : Type 0} → (String Global → Result S Error → Type 0) → String Global → Outcome → Type 0
EndsUnread {S = S} opens file end = ((opened : Result S Error) × opens file opened × EndsOpened file opened end) ⊎ (end ≡ no_memory)

-- the first sheets were read, and the next was not, and this is the end
pub record EndsReading {S : Type 0} (opens : String Global → Result S Error → Type 0) (coming : S → Option (List ℕ)) (files : List (String Global)) (end : Outcome) : Type 0 where
  pub place : ℕ
  pub texts : List (List ℕ)
  pub read : AreTexts opens coming (take place files) texts
  pub file : String Global
  pub is_at : slice_get files place ≡ Some file
  pub ends : EndsUnread opens file end

-- all sheets were read, and this is the end that tells what is wrong with their texts
pub record EndsRead {S : Type 0} (opens : String Global → Result S Error → Type 0) (coming : S → Option (List ℕ)) (files : List (String Global)) (end : Outcome) : Type 0 where
  pub texts : List (List ℕ)
  pub read : AreTexts opens coming files texts
  pub error : SheetsError
  pub reports : ReportsOf texts error
  pub told : IsToldOf (map (λ s. string_bytes s) files) error end

-- what comes of the sheets that the words name: each is read, and the deck does what all say together; where they name none, the deck has
-- nothing of its own
abbrev pub FindsDeck : {S : Type 0} → (String Global → Result S Error → Type 0) → (S → Option (List ℕ)) → List (String Global) → Result (Option Deck) Outcome
    → Type 0
FindsDeck opens coming [] found = found ≡ Ok None
FindsDeck opens coming (file ∷ files) (Ok None) = ⊥
FindsDeck opens coming (file ∷ files) (Ok (Some deck)) = (texts : List (List ℕ)) × AreTexts opens coming (file ∷ files) texts × IsDeckOfAll texts deck
FindsDeck opens coming (file ∷ files) (Err end) = EndsReading opens coming (file ∷ files) end ⊎ EndsRead opens coming (file ∷ files) end

-- a file was not opened, or its reader failed, and this is the end
abbrev pub IsUnopened : String Global → Outcome → Type 0
IsUnopened file end = (e : Error) × (end ≡ outcome_unopened (Some file) e)

-- of the other files, the sheets and the deck's file of an export, one was not read, and this is the end
abbrev pub EndsOther : {S : Type 0} → (String Global → Result S Error → Type 0) → (S → Option (List ℕ)) → List (String Global) → Option (String Global) → Outcome
    → Type 0
EndsOther opens coming sheets deck_file end = FindsDeck opens coming sheets (Err end) ⊎ ((file : String Global) × (deck_file ≡ Some file) × IsUnopened file end)
