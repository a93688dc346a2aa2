-- The rules of a data row, each on its own, and the first rows of a text that keep them.
use Rattle.std.specs.Prelude.{◌≡◌, ◌≢◌, ℕ, ◌+◌, ◌<◌, List, [], ◌∷◌, ◌++◌, length, All, Option, Some, None}
use Rattle.capture9.specs.declared.error.CaptureError.{CaptureError}
use Rattle.capture9.specs.declared.error.CaptureKind.{CaptureKind}
use Rattle.capture9.specs.declared.error.CaptureKind.TheVariants as kind
use Rattle.capture9.specs.declared.line_byte.LineByte.{LineByte}
use Rattle.capture9.specs.Fields.{byte_in, time_in, wire_in}
use Rattle.capture9.specs.Rows.{row_fault, Rows}

-- the fields are a time, a wire and a byte of which this holds
abbrev pub AreThree : (List ℕ → List ℕ → List ℕ → Type 0) → List (List ℕ) → Type 0
AreThree P (time ∷ wire ∷ byte ∷ []) = P time wire byte
AreThree P fields = ⊥

-- the row with this number and these fields, after a row of this time (0 before the first), breaks the rule whose
-- breach is told as this kind, where a text may have at most `limit` rows
abbrev pub RowBreaks : ℕ → CaptureKind → ℕ → ℕ → List (List ℕ) → Type 0
RowBreaks limit kind.TooMany number before fields = limit < number
RowBreaks limit kind.Fields number before fields = length fields ≢ 3
RowBreaks limit kind.Time number before fields = AreThree (λ time wire byte. time_in time ≡ None) fields
RowBreaks limit kind.Wire number before fields = AreThree (λ time wire byte. wire_in wire ≡ None) fields
RowBreaks limit kind.Byte number before fields = AreThree (λ time wire byte. byte_in byte ≡ None) fields
RowBreaks limit kind.Backwards number before fields =
    AreThree (λ time wire byte. (told : ℕ) × (time_in time ≡ Some told) × (told < before)) fields
RowBreaks limit kind.Header number before fields = ⊥
RowBreaks limit kind.Read number before fields = ⊥
RowBreaks limit kind.OutOfMemory number before fields = ⊥

-- the order in which the rules of a row count
abbrev pub row_kinds : List CaptureKind
row_kinds = kind.TooMany ∷ kind.Fields ∷ kind.Time ∷ kind.Wire ∷ kind.Byte ∷ kind.Backwards ∷ []

-- P holds of this one of the kinds, and of none before it
pub record IsFirstOf (P : CaptureKind → Type 0) (kinds : List CaptureKind) (k : CaptureKind) : Type 0 where
  pub before : List CaptureKind
  pub after : List CaptureKind
  pub split : kinds ≡ before ++ k ∷ after
  pub holds : P k
  pub none_before : All (λ j. ¬ (P j)) before

-- the fields spell this record
abbrev pub Spell : List (List ℕ) → LineByte → Type 0
Spell fields r =
    AreThree (λ time wire byte. (time_in time ≡ Some r.time_us) × (wire_in wire ≡ Some r.wire) × (byte_in byte ≡ Some r.byte)) fields

-- the time of the last of these records, and this one where there is none
abbrev pub last_time : ℕ → List LineByte → ℕ
last_time before [] = before
last_time before (r ∷ rest) = last_time r.time_us rest

-- these rows, from this number on and after a row of this time, spell these records one each, and none breaks a rule
abbrev pub AreGood : ℕ → ℕ → ℕ → List (List (List ℕ)) → List LineByte → Type 0
AreGood limit number before [] items = items ≡ []
AreGood limit number before (fields ∷ rows) [] = ⊥
AreGood limit number before (fields ∷ rows) (r ∷ items) =
    Spell fields r × ((k : CaptureKind) → ¬ (RowBreaks limit k number before fields)) × AreGood limit (number + 1) r.time_us rows items

-- no row is left, and there is no fault; or the first that is left breaks a rule, and the fault is the first in order
-- that it breaks
abbrev pub AreLeft : ℕ → ℕ → ℕ → List (List (List ℕ)) → Option CaptureError → Type 0
AreLeft limit number before [] fault = fault ≡ None
AreLeft limit number before (fields ∷ rows) fault =
    (k : CaptureKind) × IsFirstOf (λ j. RowBreaks limit j number before fields) row_kinds k × (fault ≡ Some (row_fault number fields k))

-- the data rows of a text hold this: the records of the longest first part of good rows, and the fault of the row
-- after it
pub record HasFirstPart (limit : ℕ) (rows : List (List (List ℕ))) (held : Rows) : Type 0 where
  pub good : List (List (List ℕ))
  pub left : List (List (List ℕ))
  pub split : rows ≡ good ++ left
  pub are_good : AreGood limit 1 0 good held.records
  pub are_left : AreLeft limit (length good + 1) (last_time 0 held.records) left held.fault
