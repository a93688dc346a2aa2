-- What a text of a capture holds.
use Rattle.std.specs.Prelude.{◌≢◌, ℕ, ◌+◌, List, [], ◌∷◌, Option, Some, None, Result, Ok, Err, nat_lt, if◌then◌else◌}
use Rattle.csv.specs.Reading.{default_config, records, strip_bom}
use Rattle.capture9.specs.declared.error.CaptureError.{CaptureError}
use Rattle.capture9.specs.declared.error.CaptureKind.{CaptureKind}
use Rattle.capture9.specs.declared.error.CaptureKind.TheVariants as kind
use Rattle.capture9.specs.declared.line_byte.LineByte.{LineByte}
use Rattle.capture9.specs.declared.line_byte.Wire.{Wire}
use Rattle.capture9.specs.declared.shown_field.ShownField.{ShownField}
use Rattle.capture9.specs.Fields.{is_header, most_rows, time_in, wire_in, byte_in}
use Rattle.capture9.specs.Shown.{shown_of}

-- what a text holds: the records of its good rows, and the fault of the first bad one
pub record Rows : Type 0 where
  pub records : List LineByte
  pub fault : Option CaptureError

-- no row
abbrev pub no_rows : Rows
no_rows = record { records = []; fault = None }

-- a bad row, with this fault: it and what follows have no records
abbrev pub bad_row : CaptureError → Rows
bad_row e = record { records = []; fault = Some e }

-- a good row, and the rows after it
abbrev pub good_row : LineByte → Rows → Rows
good_row r rest = record { records = r ∷ rest.records; fault = rest.fault }

-- the fault of a header, which shows no field
abbrev pub header_fault : CaptureError
header_fault = record { kind = kind.Header; row = 0; field = None }

-- the header was there: its fault is not what these rows end with
abbrev pub HasHeader : Rows → Type 0
HasHeader rows = rows.fault ≢ Some header_fault

-- what a fault of this kind shows of a row of these fields: the one field that is wrong, where it is one
abbrev pub shown_in : List (List ℕ) → CaptureKind → Option ShownField
shown_in (time ∷ wire ∷ byte ∷ []) kind.Time = Some (shown_of time)
shown_in (time ∷ wire ∷ byte ∷ []) kind.Wire = Some (shown_of wire)
shown_in (time ∷ wire ∷ byte ∷ []) kind.Byte = Some (shown_of byte)
shown_in (time ∷ wire ∷ byte ∷ []) kind.Backwards = Some (shown_of time)
shown_in _ _ = None

-- the fault of this kind of the row with this number and these fields
abbrev pub row_fault : ℕ → List (List ℕ) → CaptureKind → CaptureError
row_fault number fields k = record { kind = k; row = number; field = shown_in fields k }

-- the record of three fields that are read so, after a row of this time, or the first that is spelled wrong
abbrev pub record_of : ℕ → Option ℕ → Option Wire → Option ℕ → Result LineByte CaptureKind
record_of before None wire byte = Err kind.Time
record_of before (Some time) None byte = Err kind.Wire
record_of before (Some time) (Some wire) None = Err kind.Byte
record_of before (Some time) (Some w) (Some b) =
    if nat_lt time before then Err kind.Backwards else Ok (record { time_us = time; wire = w; byte = b })

-- the record of these fields, of which there must be three
abbrev pub fields_record : ℕ → List (List ℕ) → Result LineByte CaptureKind
fields_record before (time ∷ wire ∷ byte ∷ []) = record_of before (time_in time) (wire_in wire) (byte_in byte)
fields_record before _ = Err kind.Fields

-- the record of the row with this number and these fields, after a row of this time (0 at first), or the
-- first rule that the row breaks; a text may have at most `limit` rows
abbrev pub row_of : ℕ → ℕ → ℕ → List (List ℕ) → Result LineByte CaptureKind
row_of limit number before fields = if nat_lt limit number then Err kind.TooMany else fields_record before fields

-- what a row of these fields and the rows after it hold, which depend on the row's time
abbrev pub row_then : ℕ → List (List ℕ) → Result LineByte CaptureKind → (ℕ → Rows) → Rows
row_then number fields (Ok r) rest = good_row r (rest r.time_us)
row_then number fields (Err k) rest = bad_row (row_fault number fields k)

-- what the rows from the one with this number on hold; the first bad row ends the list
abbrev pub rows_from : ℕ → ℕ → ℕ → List (List (List ℕ)) → Rows
rows_from limit number before [] = no_rows
rows_from limit number before (fields ∷ rest) =
    row_then number fields (row_of limit number before fields) (λ time. rows_from limit (number + 1) time rest)

-- what CSV records hold: first the header, and then data rows, numbered from 1
abbrev pub headed_rows : ℕ → List (List (List ℕ)) → Rows
headed_rows limit [] = bad_row header_fault
headed_rows limit (fields ∷ rest) = if is_header fields then rows_from limit 1 0 rest else bad_row header_fault

-- what a text holds that may have at most `limit` rows, by its bytes; a byte order mark before the header is no part of it
abbrev pub rows_within : ℕ → List ℕ → Rows
rows_within limit text = headed_rows limit (records default_config (strip_bom text))

-- what a text of a capture holds, where no other limit is given
abbrev pub rows_of : List ℕ → Rows
rows_of text = rows_within most_rows text
