-- What a capture that was read to its end has of its text.
use Rattle.std.specs.Prelude.{◌≡◌, ◌≢◌, List, ◌++◌, Option, Some, None}
use Rattle.std.specs.Bool.{MatchBool}
use Rattle.capture9.specs.declared.error.CaptureError.{CaptureError}
use Rattle.capture9.specs.declared.line_byte.LineByte.{LineByte}
use Rattle.capture9.specs.Error.{is_of_text}
use Rattle.capture9.specs.Rows.{Rows, HasHeader}

-- the list is a part of the other, from its start on
abbrev pub IsStartOf : List LineByte → List LineByte → Type 0
IsStartOf front whole = (rest : List LineByte) × (whole ≡ front ++ rest)

-- reading stopped after these records for something outside the text; at a data row only where it has the header
pub record WasStopped (rows : Rows) (items : List LineByte) (e : CaptureError) : Type 0 where
  pub start : IsStartOf items rows.records
  pub has_header : e.row ≢ 0 → HasHeader rows

-- these records and this fault were read of a text that holds these rows
abbrev pub WasRead : Rows → List LineByte → Option CaptureError → Type 0
WasRead rows items None = rows ≡ record { records = items; fault = None }
WasRead rows items (Some e) =
    MatchBool (is_of_text e.kind) (rows ≡ record { records = items; fault = Some e }) (WasStopped rows items e)
