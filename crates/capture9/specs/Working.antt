-- What the clauses of private functions cite, and what stands inside a `Records`. No public contract reaches it, so
-- no reader has to believe it.
use Rattle.std.specs.Prelude.{◌≡◌, ℕ, ◌+◌, ◌*◌, ◌^◌, ◌≤◌, Bool, true, false, List, [], ◌∷◌, Option, Some, None, length, nat_lt, option_map, IfSome, if◌then◌else◌}
use Rattle.csv.specs.Reading.{Ready, default_config, is_flexible, reader_config, reader_state, reader_trim, records_from, source_of}
use Rattle.csv.specs.declared.parser.State.{State}
use Rattle.csv.specs.declared.reader.Reader.{Reader}
use Rattle.csv.specs.declared.reader.Trim.TheVariants as trim
use Rattle.capture9.specs.declared.error.CaptureError.{CaptureError}
use Rattle.capture9.specs.declared.records.Stage.{Stage}
use Rattle.capture9.specs.declared.records.Stage.TheVariants as stage
use Rattle.capture9.specs.declared.records.Standing.{Standing}
use Rattle.capture9.specs.declared.records.Standing.TheVariants as standing
use Rattle.std.specs.Str.{all_ascii_digits}
use Rattle.capture9.specs.Fields.{decimal_value, greatest_limit}
use Rattle.capture9.specs.Records.{IsPlaced, Progress}
use Rattle.capture9.specs.Rows.{Rows, headed_rows, no_rows, rows_from}

-- the CSV records of a text, from a state of the machine that reads CSV
abbrev pub records_at : State → List ℕ → List (List (List ℕ))
records_at s bytes = records_from default_config (length bytes + 1) s bytes

-- the CSV records that a reader has still to read, where its bytes are known
abbrev pub unread_records : {R : Type 0} → (R → Option (List ℕ)) → Reader R → Option (List (List (List ℕ)))
unread_records remaining r = option_map (records_at (reader_state r)) (source_of remaining r)

-- whether a `Records` at this stage reads on
abbrev pub standing_at : Stage → Standing
standing_at stage.BeforeHeader = standing.Reading
standing_at stage.InRows = standing.Reading
standing_at stage.Ended = standing.Ended
standing_at (stage.Refused e) = standing.Refused e

-- whether the header was read: a refusal of the header itself stands at row 0, and each later one at its data row, counted from 1
abbrev pub is_past_header : Stage → Bool
is_past_header stage.BeforeHeader = false
is_past_header stage.InRows = true
is_past_header stage.Ended = true
is_past_header (stage.Refused e) = nat_lt 0 e.row

-- the rows that are still to come, by how many there may be, the number of rows given, the time of the last one, and the CSV
-- records left
abbrev pub rows_to_come : ℕ → Stage → ℕ → ℕ → Option (List (List (List ℕ))) → Option Rows
rows_to_come limit stage.BeforeHeader given last_time unread = option_map (headed_rows limit) unread
rows_to_come limit stage.InRows given last_time unread = option_map (rows_from limit (given + 1) last_time) unread
rows_to_come limit stage.Ended given last_time unread = Some no_rows
rows_to_come limit (stage.Refused e) given last_time unread = None

-- a reader that takes every record as it stands: commas, no trimming, any number of fields, no header of its own
pub record IsPlain {R : Type 0} (r : Reader R) : Type 0 where
  pub config : reader_config r ≡ default_config
  pub trim : reader_trim r ≡ trim.None
  pub flexible : is_flexible r ≡ true
  pub ready : Ready r

-- what always holds of the fields of a `Records`
pub record HoldsInRecords {R : Type 0} (limit : ℕ) (s : Stage) (given last_time : ℕ) (r : Reader R) : Type 0 where
  pub plain : standing_at s ≡ standing.Reading → IsPlain r
  pub within : given ≤ limit
  pub numbered : limit ≤ greatest_limit
  pub fresh : is_past_header s ≡ false → (given ≡ 0) × (last_time ≡ 0)
  pub refused : (e : CaptureError) → s ≡ stage.Refused e → IsPlaced limit (is_past_header s) given e

-- what a read of a CSV record did: there was one, with these fields, or there was none
abbrev pub TakesFields : List (List (List ℕ)) → Bool → List (List ℕ) → Option (List (List (List ℕ))) → Type 0
TakesFields unread true fields after = (rest : List (List (List ℕ))) × (unread ≡ fields ∷ rest) × (after ≡ Some rest)
TakesFields unread false fields after = unread ≡ []

-- the header was read, and the rows to come are those that were
pub record PassesHeader {R : Type 0} (old new : Progress R) : Type 0 where
  pub was_reading : old.standing ≡ standing.Reading
  pub is_reading : new.standing ≡ standing.Reading
  pub is_headed : new.is_headed ≡ true
  pub same_limit : new.most_rows ≡ old.most_rows
  pub given : new.given ≡ old.given
  pub last_time : new.last_time ≡ old.last_time
  pub rows : IfSome old.rows (λ rows. new.rows ≡ Some rows)

-- the number that these decimal digits make after the digits of another one
abbrev pub digits_after : ℕ → List ℕ → Option ℕ
digits_after front digits =
    if all_ascii_digits digits then Some (front * 10 ^ length digits + decimal_value digits) else None
