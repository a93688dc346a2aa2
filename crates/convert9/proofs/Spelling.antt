-- The text of a capture reads back as its records.
use Rattle.capture9.proofs.Words.{[], add-zero, ap, append-nil, arith, byte_in, decimal}
use Rattle.capture9.proofs.Words.{decimal_nonempty, default_config, default_writer, digits_decimal, digits_value-decimal, false, fields_text, get_or, hex_digit_of}
use Rattle.capture9.proofs.Words.{is_blank, last_time, le-leb, length, length-decimal-le, List, lit<, map}
use Rattle.capture9.proofs.Words.{nat_lt, nat_tests, no_rows, None, Ok, Option, read-write, read_back, records_at, refl, row_of, row_text, Rows, rows_from, rows_within}
use Rattle.capture9.proofs.Words.{rows_text as csv_text}
use Rattle.capture9.proofs.Words.{Some, State, strip_bom, time_in, wire_in, ℕ, ◌%◌, ◌*◌, ◌++◌, ◌+◌, ◌/◌, ◌<◌, ◌^◌, ◌∙◌, ◌∷◌, ◌≡◌, ◌≤◌}
use Rattle.std.proofs.Common.{append_assoc, drop, subst, sym}
use Rattle.std.proofs.KnownBytes.{Appends-kept, Appends-trans}
use Rattle.std.specs.Io.KnownBytes.{Appends}
use Rattle.std.specs.Prelude.{Err, IfOk, Result}
use Rattle.std.proofs.lemmas.List.{drop_more}
use Rattle.capture9.specs.declared.line_byte.LineByte.{LineByte}
use Rattle.capture9.specs.declared.line_byte.Wire.TheVariants.{Controller}
use Rattle.capture9.proofs.FieldLemmas.{numerals}
use Rattle.capture9.proofs.CsvLemmas.{none_at_start, records_at-some}
use Rattle.convert9.specs.Spelled.{AreTaken, header, hex, IsBegun, IsWritten, letter, rows_text, spelled, Written}

-- ---- the digits of a time

time-read : (time : ℕ) → time < 10 ^ 15 → time_in (decimal time) ≡ Some time
time-read time h =
    let small : time < 2 ^ 64 = omega arith in
    rw (
      le-leb 1 _ (decimal_nonempty time small),
      le-leb _ 15 (length-decimal-le 15 time (lit< tt) h small),
      digits_decimal numerals time small,
      digits_value-decimal numerals time small,
    ) refl

-- ---- two hexadecimal digits

hex-read : (d : ℕ) → d < 16 → hex_digit_of (hex d) ≡ Some d
hex-read d h = grind (arith, nat_tests)

byte-read : (b : ℕ) → b < 256 → byte_in (hex (b / 16) ∷ hex (b % 16) ∷ []) ≡ Some b
byte-read b h = let whole : b / 16 * 16 + b % 16 ≡ b = omega arith in rw (hex-read (b / 16) (omega arith), hex-read (b % 16) (omega arith), whole) refl

-- ---- a row for each record, and one for each fault

spelled-read : (limit number before : ℕ) (r : LineByte) → number ≤ limit → before ≤ r.time_us → r.time_us < 10 ^ 15 → r.byte < 256
    → row_of limit number before (spelled r) ≡ Ok r
spelled-read limit number before r within order range byte =
    let few : (nat_lt limit number ≡ false) × (nat_lt r.time_us before ≡ false) = grind (arith, nat_tests) in
    let named : wire_in (letter r.wire) ≡ Some r.wire = grind arith in
    rw (few.0, time-read r.time_us range, named, byte-read r.byte byte, few.1) refl

-- what is taken for a record where a list has none
abbrev pub nothing : LineByte
nothing = record { time_us = 0; wire = Controller; byte = 0 }

-- records that a capture can have one after another, behind one of this time
abbrev pub Rises : ℕ → List LineByte → Type 0
Rises before [] = Unit {0}
Rises before (r ∷ rest) = (before ≤ r.time_us) × (r.time_us < 10 ^ 15) × (r.byte < 256) × Rises r.time_us rest

-- their rows are read as those records, and then the others
read-then : (limit number before : ℕ) (items : List LineByte) (rest : List (List (List ℕ))) (tail : Rows) → number + length items ≤ limit + 1
    → Rises before items
    → rows_from limit (number + length items) (last_time before items) (map read_back rest) ≡ tail
    → rows_from limit number before (map read_back (map spelled items ++ rest)) ≡ record { records = items ++ tail.records; fault = tail.fault }
read-then limit number before [] rest tail few good left = rw add-zero at left
read-then limit number before (r ∷ items) rest tail few good left =
    let next : number + length (r ∷ items) ≡ number + 1 + length items = omega arith in
    rw (
      spelled-read limit number before r (omega arith) good.0 good.1 good.2,
      read-then limit (number + 1) r.time_us items rest tail (omega arith) good.3 (rw next at left),
    ) refl

-- ---- the text

-- the CSV records of the text of rows
records-rows : (rows : List (List (List ℕ))) → records_at State.StartRecord (csv_text rows) ≡ map read_back rows
unfolding csv_text
records-rows [] = none_at_start default_config 1
records-rows (row ∷ rows) =
    records_at-some State.StartRecord (row_text default_writer row ++ csv_text rows) (read_back row, State.StartRecord, csv_text rows)
    (read-write row (csv_text rows))
    ∙ ap (λ (t : List (List (List ℕ))). read_back row ∷ t) (records-rows rows)

no-mark : (rows : List (List (List ℕ))) → strip_bom (csv_text (header ∷ rows)) ≡ csv_text (header ∷ rows)
unfolding strip_bom csv_text fields_text is_blank
no-mark rows = refl

headed-text : (limit : ℕ) (rows : List (List (List ℕ))) → rows_within limit (csv_text (header ∷ rows)) ≡ rows_from limit 1 0 (map read_back rows)
headed-text limit rows = rw (no-mark rows, records-rows (header ∷ rows)) refl

-- the text of rows is that of their fields
text-spelled : (items : List LineByte) → rows_text items ≡ csv_text (map spelled items)
unfolding csv_text
text-spelled [] = refl
text-spelled (r ∷ items) = ap (λ t. row_text default_writer (spelled r) ++ t) (text-spelled items)

first-row : (rows : List (List (List ℕ))) → csv_text (header ∷ rows) ≡ row_text default_writer header ++ csv_text rows
unfolding csv_text
first-row rows = refl

-- the text of a capture reads back as its records
pub capture-read : (limit : ℕ) (items : List LineByte) → length items ≤ limit → Rises 0 items
    → rows_within limit (row_text default_writer header ++ rows_text items) ≡ record { records = items; fault = None }
capture-read limit items few good =
    let read = headed-text limit (map spelled items ++ []) ∙ read-then limit 1 0 items [] no_rows (omega arith) good refl in
    let same = ap (λ t. row_text default_writer header ++ t) (text-spelled items) ∙ sym (first-row (map spelled items)) in
    rw same (rw (append-nil (map spelled items), append-nil items) at read)

-- a row more
pub row-more : (items : List LineByte) (i : ℕ) (d : LineByte) → i < length items
    → rows_text (drop i items) ≡ row_text default_writer (spelled (get_or items i d)) ++ rows_text (drop (i + 1) items)
row-more items i d lt = ap rows_text (drop_more items i d lt)

-- records that rise from the next one on rise from this one on
pub rises-more : (items : List LineByte) (i before : ℕ) (d : LineByte) → i < length items
    → before ≤ (get_or items i d).time_us → (get_or items i d).time_us < 10 ^ 15 → (get_or items i d).byte < 256
    → Rises (get_or items i d).time_us (drop (i + 1) items) → Rises before (drop i items)
rises-more items i before d lt order range byte rest =
    subst (Rises before) (sym (drop_more items i d lt)) (order, range, byte, rest)

-- what was taken stands behind the rest, and rises
taken-behind : (old : Option (List ℕ)) (text : List ℕ) (before now : Written) (records : List LineByte) → Appends old before.text text → AreTaken before records now
    → Appends old now.text (text ++ rows_text records) × Rises before.last_us records
taken-behind old text before now [] behind same = (rw (append-nil text) (Appends-kept _ _ _ text behind same.text), tt)
taken-behind old text before now (r ∷ rest) behind (taken, flushed, can, is, same, more) =
    let row = row_text default_writer (spelled r) in
    let row_behind = Appends-kept _ _ _ (text ++ row) (Appends-trans _ _ _ text row behind is.text) same.text in
    let later = taken-behind old (text ++ row) flushed now rest row_behind more in
    let last : flushed.last_us ≡ r.time_us = same.last ∙ is.last in
    (rw (sym (append_assoc text row (rows_text rest))) later.0, (can.1, can.2, can.3, rw last at later.1))

-- a capture that was begun and taken can be read
pub taken-read : (old : Option (List ℕ)) (begun now : Written) (records : List LineByte) → IsBegun old begun → AreTaken begun records now → IsWritten records old now.text
taken-read old begun now records is taken =
    let first = row_text default_writer header in
    let behind = taken-behind old first begun now records is.text taken in
    record { text = first ++ rows_text records; is_behind = behind.0; is_read = λ limit few. capture-read limit records few (rw is.last at behind.1) }

-- what follows from a result that is an Ok
pub if_ok : {T E : Type 0} {P Q : T → Type 0} (r : Result T E) → ((x : T) → P x → Q x) → IfOk r P → IfOk r Q
if_ok (Ok x) f h = f x h
if_ok (Err e) f h = tt
