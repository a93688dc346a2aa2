-- How a capture is written, and what was written of it.
use Rattle.std.specs.Prelude.{◌≡◌, ◌<◌, ◌≤◌, ◌^◌, ℕ, ◌+◌, ◌/◌, ◌%◌, List, [], ◌∷◌, ◌++◌, Option, None, codes, length, nat_lt, if◌then◌else◌}
use Rattle.std.specs.Fmt.{decimal}
use Rattle.std.specs.Io.KnownBytes.{Appends, Keeps}
use Rattle.csv.specs.Writing.{default_writer, row_text}
use Rattle.capture9.specs.Fields.{greatest_limit}
use Rattle.capture9.specs.Rows.{rows_within}
use Rattle.capture9.specs.declared.line_byte.LineByte.{LineByte}
use Rattle.capture9.specs.declared.line_byte.Wire.{Wire}
use Rattle.capture9.specs.declared.line_byte.Wire.TheVariants.{Controller, Deck}

-- a hexadecimal digit, in upper case
abbrev pub hex : ℕ → ℕ
hex d = if nat_lt d 10 then 48 + d else 55 + d

abbrev pub letter : Wire → List ℕ
letter Controller = codes "C"
letter Deck = codes "D"

-- the fields of a record's row
abbrev pub spelled : LineByte → List (List ℕ)
spelled r = decimal r.time_us ∷ letter r.wire ∷ (hex (r.byte / 16) ∷ hex (r.byte % 16) ∷ []) ∷ []

abbrev pub header : List (List ℕ)
header = codes "time_us" ∷ codes "wire" ∷ codes "byte" ∷ []

-- a capture that is written, where that is known: its text behind what the writer held before, how many records it has, and the time
-- of the last
pub record Written : Type 0 where
  pub text : Option (List ℕ)
  pub count : ℕ
  pub last_us : ℕ

-- a capture that was written so far can have this record next
abbrev pub CanTake : Written → LineByte → Type 0
CanTake written r = (written.count < greatest_limit) × (written.last_us ≤ r.time_us) × (r.time_us < 10 ^ 15) × (r.byte < 256)

-- its row was written behind the others
pub record IsTaken (old : Written) (r : LineByte) (now : Written) : Type 0 where
  pub text : Appends old.text now.text (row_text default_writer (spelled r))
  pub count : now.count ≡ old.count + 1
  pub last : now.last_us ≡ r.time_us

-- nothing more was written
pub record IsSame (old now : Written) : Type 0 where
  pub text : Keeps old.text now.text
  pub count : now.count ≡ old.count
  pub last : now.last_us ≡ old.last_us

-- these records were written one after another, each maybe with a flush behind it
abbrev pub AreTaken : Written → List LineByte → Written → Type 0
AreTaken old [] now = IsSame old now
AreTaken old (r ∷ rest) now =
    (taken : Written) × (flushed : Written) × CanTake old r × IsTaken old r taken × IsSame taken flushed × AreTaken flushed rest now

-- a capture was begun behind what the writer held before
pub record IsBegun (old : Option (List ℕ)) (now : Written) : Type 0 where
  pub text : Appends old now.text (row_text default_writer header)
  pub count : now.count ≡ 0
  pub last : now.last_us ≡ 0

-- behind what the writer held before, a text was written without a fault, whose records are these, within each limit that they keep
pub record IsWritten (records : List LineByte) (old now : Option (List ℕ)) : Type 0 where
  pub text : List ℕ
  pub is_behind : Appends old now text
  pub is_read : (limit : ℕ) → length records ≤ limit → rows_within limit text ≡ record { records = records; fault = None }

-- the rows of records
abbrev pub rows_text : List LineByte → List ℕ
rows_text [] = []
rows_text (r ∷ rest) = row_text default_writer (spelled r) ++ rows_text rest
