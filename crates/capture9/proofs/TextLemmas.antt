-- A text for rows that some text can hold.
use Rattle.capture9.proofs.Words.{[], add-zero, All, ap, append-nil, arith, bad_row, byte_in, CanBeRows, CanFollow, CanShow, CaptureError, CaptureKind, codes, Controller, decimal}
use Rattle.capture9.proofs.Words.{decimal_nonempty, Deck, default_config, default_writer, digits_decimal, digits_value-decimal, false, fields_text, get_or, header_fault, hex_digit_of}
use Rattle.capture9.proofs.Words.{if◌then◌else◌, is_blank, IsNonDecreasingBy, IsOfSomeText, last_time, le-leb, length, length-decimal-le, LineByte, List, lit<, map}
use Rattle.capture9.proofs.Words.{nat_lt, nat_tests, no_rows, None, Ok, Option, read-write, read_back, records_at, refl, row_of, row_text, Rows, rows_from, rows_text, rows_within}
use Rattle.capture9.proofs.Words.{ShownField, Some, State, strip_bom, suc, time_in, Wire, wire_in, ℕ, ◌%◌, ◌*◌, ◌++◌, ◌+◌, ◌/◌, ◌<◌, ◌^◌, ◌∙◌, ◌∷◌, ◌≡◌, ◌≢◌, ◌≤◌}
use Rattle.capture9.proofs.FieldLemmas.{numerals}
use Rattle.capture9.proofs.CsvLemmas.{none_at_start, records_at-some}

-- ---- the digits of a time

time-read : (time : ℕ) → time < 10 ^ 15 → time_in (decimal time) ≡ Some time
time-read time h =
    let small : time < 2 ^ 64 = omega arith in
    rw (
      le-leb 1 _ (decimal_nonempty time small),
      le-leb _ 15 (length-decimal-le 15 time (lit< tt) h small),
      digits_decimal numerals time small,
      digits_value-decimal numerals time small,
    ) refl

-- ---- two hexadecimal digits

abbrev hex : ℕ → ℕ
hex d = if nat_lt d 10 then 48 + d else 55 + d

hex-read : (d : ℕ) → d < 16 → hex_digit_of (hex d) ≡ Some d
hex-read d h = grind (arith, nat_tests)

byte-read : (b : ℕ) → b < 256 → byte_in (hex (b / 16) ∷ hex (b % 16) ∷ []) ≡ Some b
byte-read b h = let whole : b / 16 * 16 + b % 16 ≡ b = omega arith in rw (hex-read (b / 16) (omega arith), hex-read (b % 16) (omega arith), whole) refl

-- ---- a row for each record, and one for each fault

abbrev letter : Wire → List ℕ
letter Controller = codes "C"
letter Deck = codes "D"

abbrev spelled : LineByte → List (List ℕ)
spelled r = decimal r.time_us ∷ letter r.wire ∷ (hex (r.byte / 16) ∷ hex (r.byte % 16) ∷ []) ∷ []

spelled-read : (limit number before : ℕ) (r : LineByte) → number ≤ limit → before ≤ r.time_us → r.time_us < 10 ^ 15 → r.byte < 256
    → row_of limit number before (spelled r) ≡ Ok r
spelled-read limit number before r within order range byte =
    let few : (nat_lt limit number ≡ false) × (nat_lt r.time_us before ≡ false) = grind (arith, nat_tests) in
    let named : wire_in (letter r.wire) ≡ Some r.wire = grind arith in
    rw (few.0, time-read r.time_us range, named, byte-read r.byte byte, few.1) refl

-- a row that breaks this rule first, with the field that its fault shows
abbrev bad_fields : (before : ℕ) (k : CaptureKind) (shown : Option ShownField) → CanShow before k shown → List (List ℕ)
bad_fields before CaptureKind.Time shown h = h.0 ∷ [] ∷ [] ∷ []
bad_fields before CaptureKind.Wire shown h = codes "0" ∷ h.0 ∷ [] ∷ []
bad_fields before CaptureKind.Byte shown h = codes "0" ∷ codes "C" ∷ h.0 ∷ []
bad_fields before CaptureKind.Backwards shown h = h.0 ∷ codes "C" ∷ codes "00" ∷ []
bad_fields before _ shown h = [] ∷ []

-- records that keep the limits, from the row with this number on and after a row of this time
abbrev AreInRange : ℕ → ℕ → ℕ → List LineByte → Type 0
AreInRange limit number before [] = Unit {0}
AreInRange limit number before (r ∷ rest) = (number ≤ limit) × (before ≤ r.time_us) × (r.time_us < 10 ^ 15) × (r.byte < 256)
    × AreInRange limit (number + 1) r.time_us rest

in-range : (limit number before : ℕ) (items : List LineByte) → number + length items ≤ limit + 1
    → ((d : LineByte) → 0 < length items → before ≤ (get_or items 0 d).time_us)
    → IsNonDecreasingBy (λ (r : LineByte). r.time_us) items → All (λ r. r.time_us < 10 ^ 15) items → All (λ r. r.byte < 256) items
    → AreInRange limit number before items
in-range limit number before [] few first order range byte = tt
in-range limit number before (r ∷ rest) few first order range byte =
    let rise = λ (i j : ℕ) (d : LineByte) (le : i ≤ j) (lt : j < length rest). order (suc i) (suc j) d (omega arith) (omega arith) in
    let later = in-range limit (number + 1) r.time_us rest (omega arith) (λ d lt. order 0 1 d (omega arith) (omega arith)) rise in (
      omega arith,
      first r (omega arith),
      range 0 r (omega arith),
      byte 0 r (omega arith),
      later (λ k d h. range (suc k) d (omega arith))
          (λ k d h. byte (suc k) d (omega arith)),
    )

-- their rows are read as those records, and then the others
read-then : (limit number before : ℕ) (items : List LineByte) (rest : List (List (List ℕ))) (tail : Rows) → AreInRange limit number before items
    → rows_from limit (number + length items) (last_time before items) (map read_back rest) ≡ tail
    → rows_from limit number before (map read_back (map spelled items ++ rest)) ≡ record { records = items ++ tail.records; fault = tail.fault }
read-then limit number before [] rest tail good left = rw add-zero at left
read-then limit number before (r ∷ items) rest tail good left =
    let next : number + length (r ∷ items) ≡ number + 1 + length items = omega arith in
    rw (spelled-read limit number before r good.0 good.1 good.2 good.3, read-then limit (number + 1) r.time_us items rest tail good.4 (rw next at left)) refl

-- ---- the text

-- the CSV records of the text of rows
records-rows : (rows : List (List (List ℕ))) → records_at State.StartRecord (rows_text rows) ≡ map read_back rows
unfolding rows_text
records-rows [] = none_at_start default_config 1
records-rows (row ∷ rows) =
    records_at-some State.StartRecord (row_text default_writer row ++ rows_text rows) (read_back row, State.StartRecord, rows_text rows)
    (read-write row (rows_text rows))
    ∙ ap (λ (t : List (List (List ℕ))). read_back row ∷ t) (records-rows rows)

abbrev header : List (List ℕ)
header = codes "time_us" ∷ codes "wire" ∷ codes "byte" ∷ []

no-mark : (rows : List (List (List ℕ))) → strip_bom (rows_text (header ∷ rows)) ≡ rows_text (header ∷ rows)
unfolding strip_bom rows_text fields_text is_blank
no-mark rows = refl

headed-text : (limit : ℕ) (rows : List (List (List ℕ))) → rows_within limit (rows_text (header ∷ rows)) ≡ rows_from limit 1 0 (map read_back rows)
headed-text limit rows = rw (no-mark rows, records-rows (header ∷ rows)) refl

-- the row of a fault that can follow these records
bad-read : (limit : ℕ) (k : CaptureKind) (items : List LineByte) (row : ℕ) (shown : Option ShownField) → CanFollow limit k items row
    → (h : CanShow (last_time 0 items) k shown) → k ≢ CaptureKind.Header
    → rows_from limit (1 + length items) (last_time 0 items) (map read_back (bad_fields (last_time 0 items) k shown h ∷ []))
    ≡ bad_row (record { kind = k; row = row; field = shown })
bad-read limit CaptureKind.Time items row shown follows h other = grind (arith, nat_tests)
bad-read limit CaptureKind.Wire items row shown follows h other = grind (arith, nat_tests)
bad-read limit CaptureKind.Byte items row shown follows h other = grind (arith, nat_tests)
bad-read limit CaptureKind.Backwards items row shown follows h other = grind (arith, nat_tests)
bad-read limit k items row shown follows h other = grind (arith, nat_tests)

-- a text of these records and then others
text-then : (limit : ℕ) (items : List LineByte) (rest : List (List (List ℕ))) (tail : Rows) (fault : Option CaptureError)
    → CanBeRows limit (record { records = items; fault = fault })
    → rows_from limit (1 + length items) (last_time 0 items) (map read_back rest) ≡ tail
    → (text : List ℕ) × (rows_within limit text ≡ record { records = items ++ tail.records; fault = tail.fault })
text-then limit items rest tail fault h left =
    let good = in-range limit 1 0 items (omega (arith, h.within)) (λ d lt. omega arith) h.in_order h.in_range h.bytes in
    (rows_text (header ∷ (map spelled items ++ rest)), headed-text limit (map spelled items ++ rest) ∙ read-then limit 1 0 items rest tail good left)

empty-text : (limit : ℕ) → rows_within limit [] ≡ bad_row header_fault
unfolding strip_bom
empty-text limit = rw (none_at_start default_config 1) refl

-- a text of these records and this fault
text-of : (limit : ℕ) (items : List LineByte) (fault : Option CaptureError) → CanBeRows limit (record { records = items; fault = fault })
    → (text : List ℕ) × (rows_within limit text ≡ record { records = items; fault = fault })
text-of limit items None h = rw (append-nil items) at (text-then limit items [] no_rows None h refl)
text-of limit items (Some e) h = by e.kind items e.row e.field h
  where
    by : (k : CaptureKind) (items : List LineByte) (row : ℕ) (shown : Option ShownField) → (let fault : CaptureError = record { kind = k; row = row; field = shown } in
        CanBeRows limit (record { records = items; fault = Some fault }))
        → (text : List ℕ) × (rows_within limit text ≡ record { records = items; fault = Some (record { kind = k; row = row; field = shown }) })
    by CaptureKind.Header items row shown h = ([], rw (h.fault.0, h.fault.1, h.shown) (empty-text limit))
    by k items row shown h =
        let fault : CaptureError = record { kind = k; row = row; field = shown } in
        rw (append-nil items) at (text-then limit items (bad_fields (last_time 0 items) k shown h.shown ∷ []) (bad_row fault) (Some fault) h
        (bad-read limit k items row shown h.fault h.shown (λ e. cc)))

pub some-text : (limit : ℕ) (rows : Rows) → CanBeRows limit rows → IsOfSomeText limit rows
some-text limit rows h = text-of limit rows.records rows.fault h
