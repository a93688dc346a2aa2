-- A `Records` as its callers see it: what is still to come, and what a call of `next` does to it.
use Rattle.std.specs.Prelude.{◌≡◌, ℕ, ◌+◌, ◌^◌, ◌<◌, ◌≤◌, ◌⊎◌, Bool, true, false, IsTrue, Option, Some, None, IfSome, if◌then◌else◌, ⊤}
use Rattle.capture9.specs.declared.error.CaptureError.{CaptureError}
use Rattle.capture9.specs.declared.line_byte.LineByte.{LineByte}
use Rattle.capture9.specs.declared.records.Standing.{Standing}
use Rattle.capture9.specs.declared.records.Standing.TheVariants as standing
use Rattle.capture9.specs.Error.{CanShow, IsAtItsRow, is_of_text}
use Rattle.capture9.specs.Fields.{greatest_limit}
use Rattle.capture9.specs.Rows.{Rows, HasHeader, no_rows, bad_row, good_row}

-- how far a `Records` over a reader has come
pub record Progress (R : Type 0) : Type 0 where
  -- what is still to come of the text's rows, where the reader tells its bytes and nothing was refused
  pub rows : Option Rows
  -- how many rows the text may have
  pub most_rows : ℕ
  -- how many records were given
  pub given : ℕ
  -- whether the header was read
  pub is_headed : Bool
  -- the time of the last record given, 0 before the first
  pub last_time : ℕ
  -- whether it reads on
  pub standing : Standing
  -- the reader, as the reads so far have left it
  pub source : R

-- the record is the first of the rows that were to come, where these are known, and the rest is now to come
abbrev pub TakesRecord : Option Rows → LineByte → Option Rows → Type 0
TakesRecord None r after = ⊤
TakesRecord (Some rows) r after = (rest : Rows) × (after ≡ Some rest) × (rows ≡ good_row r rest)

-- a record was given
pub record GivesRecord {R : Type 0} (old : Progress R) (r : LineByte) (new : Progress R) : Type 0 where
  pub was_reading : old.standing ≡ standing.Reading
  pub is_reading : new.standing ≡ standing.Reading
  pub given : new.given ≡ old.given + 1
  pub within : new.given ≤ old.most_rows
  pub numbered : new.given ≤ greatest_limit
  pub same_limit : new.most_rows ≡ old.most_rows
  pub is_headed : new.is_headed ≡ true
  pub in_order : old.last_time ≤ r.time_us
  pub in_range : r.time_us < 10 ^ 15
  pub is_byte : r.byte < 256
  pub last_time : new.last_time ≡ r.time_us
  pub has_header : IfSome old.rows HasHeader
  pub rows : TakesRecord old.rows r new.rows

-- there is no record left
pub record GivesEnd {R : Type 0} (old new : Progress R) : Type 0 where
  pub was_open : (old.standing ≡ standing.Reading) ⊎ (old.standing ≡ standing.Ended)
  pub is_ended : new.standing ≡ standing.Ended
  pub same_limit : new.most_rows ≡ old.most_rows
  pub given : new.given ≡ old.given
  pub is_headed : new.is_headed ≡ true
  pub last_time : new.last_time ≡ old.last_time
  pub none_left : IfSome old.rows (λ rows. rows ≡ no_rows)
  pub rows : new.rows ≡ Some no_rows

-- where a refusal stands: at row 0 while the header is being read, and else at the row after the records given
pub record IsPlaced (limit : ℕ) (is_headed : Bool) (given : ℕ) (e : CaptureError) : Type 0 where
  pub row : e.row ≡ (if is_headed then given + 1 else 0)
  pub none_given : is_headed ≡ false → given ≡ 0
  pub at_its_row : IsTrue (is_of_text e.kind) → IsAtItsRow limit e

-- reading is refused
pub record GivesRefusal {R : Type 0} (old : Progress R) (e : CaptureError) (new : Progress R) : Type 0 where
  pub is_refused : new.standing ≡ standing.Refused e
  pub place : IsPlaced old.most_rows new.is_headed new.given e
  pub same_limit : new.most_rows ≡ old.most_rows
  pub given : new.given ≡ old.given
  pub last_time : new.last_time ≡ old.last_time
  -- the header stays read, and is read only where the text has it
  pub stays_headed : old.is_headed ≡ true → new.is_headed ≡ true
  pub has_header : new.is_headed ≡ true → IfSome old.rows HasHeader
  -- a fault of the text is the one that was to come
  pub fault : IsTrue (is_of_text e.kind) → IfSome old.rows (λ rows. rows ≡ bad_row e)
  -- it shows a field that breaks the rule of its kind
  pub shown : old.standing ≡ standing.Reading → CanShow old.last_time e.kind e.field
  pub rows : new.rows ≡ None
