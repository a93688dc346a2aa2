-- Which faults a text itself has, the row of a fault, and the field that it shows.
use Rattle.std.specs.Prelude.{◌≡◌, ◌+◌, ◌<◌, ◌⊎◌, ◌↔◌, ℕ, List, [], length, Bool, true, false, IsTrue, Option, Some, None}
use Rattle.capture9.specs.declared.error.CaptureError.{CaptureError}
use Rattle.capture9.specs.declared.error.CaptureKind.{CaptureKind}
use Rattle.capture9.specs.declared.error.CaptureKind.TheVariants as kind
use Rattle.capture9.specs.declared.line_byte.LineByte.{LineByte}
use Rattle.capture9.specs.declared.shown_field.ShownField.{ShownField}
use Rattle.capture9.specs.Fields.{byte_in, time_in, wire_in}
use Rattle.capture9.specs.Shown.{shown_of}

-- a kind of fault that the text itself has, and not the reader or the memory
abbrev pub is_of_text : CaptureKind → Bool
is_of_text kind.Header = true
is_of_text kind.Fields = true
is_of_text kind.Time = true
is_of_text kind.Wire = true
is_of_text kind.Byte = true
is_of_text kind.Backwards = true
is_of_text kind.TooMany = true
is_of_text kind.Read = false
is_of_text kind.OutOfMemory = false

-- of the faults that a text itself has the header's is at row 0, that of a row too many at the first row too many, and no
-- other at either, where a text may have at most `limit` rows
pub record IsAtItsRow (limit : ℕ) (e : CaptureError) : Type 0 where
  pub header : (e.kind ≡ kind.Header) ↔ (e.row ≡ 0)
  pub too_many : (e.kind ≡ kind.TooMany) ↔ (e.row ≡ limit + 1)

-- where a fault stands that came after these records: at the row after them, or at row 0 while the header was read,
-- which has no record before it
pub record IsAfter (limit : ℕ) (items : List LineByte) (e : CaptureError) : Type 0 where
  pub row : (e.row ≡ length items + 1) ⊎ ((e.row ≡ 0) × (items ≡ []))
  pub at_its_row : IsTrue (is_of_text e.kind) → IsAtItsRow limit e

-- a fault of this kind, after a row of this time, can show this: a field that breaks the rule of the kind, and nothing where
-- the rule is not that of one field
abbrev pub CanShow : ℕ → CaptureKind → Option ShownField → Type 0
CanShow before kind.Time shown = (field : List ℕ) × (time_in field ≡ None) × (shown ≡ Some (shown_of field))
CanShow before kind.Wire shown = (field : List ℕ) × (wire_in field ≡ None) × (shown ≡ Some (shown_of field))
CanShow before kind.Byte shown = (field : List ℕ) × (byte_in field ≡ None) × (shown ≡ Some (shown_of field))
CanShow before kind.Backwards shown =
    (field : List ℕ) × (time : ℕ) × (time_in field ≡ Some time) × (time < before) × (shown ≡ Some (shown_of field))
CanShow before _ shown = shown ≡ None
