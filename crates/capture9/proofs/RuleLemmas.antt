-- What a row is read as, against the rules of a row, each on its own, and what is then known of it.
use Rattle.capture9.proofs.Words.{[], All-from_recursion, AllByRecursion, ap, AreGood, AreLeft, arith, bad_row, byte_in, CanShow, CaptureKind, cond_both, Err, fields_record, good_row}
use Rattle.capture9.proofs.Words.{HasFirstPart, HasHeader, headed_rows, hex_digit_of, is_header, is_of_text, IsAtItsRow, IsFirstOf, IsTrue, last_time, length, LineByte, List}
use Rattle.capture9.proofs.Words.{nat_lt, nat_tests, None, Ok, Option, record_of, refl, Result, row_fault, row_kinds, row_of, row_then, RowBreaks, Rows, rows_from, shown_in, Some, Spell}
use Rattle.capture9.proofs.Words.{time_in, true, Wire, wire_in, ℕ, ◌++◌, ◌+◌, ◌<◌, ◌^◌, ◌↔◌, ◌∷◌, ◌≡◌, ◌≢◌, ◌≤◌}
use Rattle.capture9.proofs.FieldLemmas.{time_in-lt}

-- what a row is read as: the record that it spells where it breaks no rule, and else the first rule that it breaks
abbrev pub IsRead : ℕ → ℕ → ℕ → List (List ℕ) → Result LineByte CaptureKind → Type 0
IsRead limit number before fields (Ok r) = Spell fields r × ((k : CaptureKind) → ¬ (RowBreaks limit k number before fields))
IsRead limit number before fields (Err k) = IsFirstOf (λ j. RowBreaks limit j number before fields) row_kinds k

-- the first of the rules that a row breaks, by those before it that it keeps
first-of : (P : CaptureKind → Type 0) (before after : List CaptureKind) (k : CaptureKind) → AllByRecursion (λ j. ¬ (P j)) before → P k
    → IsFirstOf P (before ++ k ∷ after) k
first-of P before after k none holds = record {
  before = before;
  after = after;
  split = refl;
  holds = holds;
  none_before = All-from_recursion (λ j. ¬ (P j)) before none;
}

record-read : (limit number before : ℕ) (a b c : List ℕ) (time : Option ℕ) (wire : Option Wire) (byte : Option ℕ) → ¬ (limit < number)
    → time_in a ≡ time → wire_in b ≡ wire → byte_in c ≡ byte → IsRead limit number before (a ∷ b ∷ c ∷ []) (record_of before time wire byte)
record-read limit number before a b c None wire byte few t w y =
    first-of _ (CaptureKind.TooMany ∷ CaptureKind.Fields ∷ []) _ CaptureKind.Time (few, (λ h. h refl, tt)) t
record-read limit number before a b c (Some time) None byte few t w y = first-of _ (CaptureKind.TooMany ∷ CaptureKind.Fields ∷ CaptureKind.Time ∷ []) _
    CaptureKind.Wire (few, (λ h. h refl, (λ h. cc, tt))) w
record-read limit number before a b c (Some time) (Some wire) None few t w y =
    first-of _ (CaptureKind.TooMany ∷ CaptureKind.Fields ∷ CaptureKind.Time ∷ CaptureKind.Wire ∷ []) _ _ (grind arith) y
record-read limit number before a b c (Some time) (Some wire) (Some byte) few t w y =
    cond_both (nat_lt time before) _ _ (IsRead limit number before (a ∷ b ∷ c ∷ [])) (λ low.
    first-of _ (CaptureKind.TooMany ∷ CaptureKind.Fields ∷ CaptureKind.Time ∷ CaptureKind.Wire ∷ CaptureKind.Byte ∷ []) _ CaptureKind.Backwards (grind arith)
    (time, t, grind (arith, nat_tests)))
    (λ high. ((t, w, y), λ k h. grind (arith, nat_tests)))

fields-read : (limit number before : ℕ) (fields : List (List ℕ)) → ¬ (limit < number) → IsRead limit number before fields (fields_record before fields)
fields-read limit number before (a ∷ b ∷ c ∷ []) few = record-read limit number before a b c (time_in a) (wire_in b) (byte_in c) few refl refl refl
fields-read limit number before fields few = first-of _ (CaptureKind.TooMany ∷ []) _ CaptureKind.Fields (few, tt) (λ h. absurd (omega arith))

pub row-read : (limit number before : ℕ) (fields : List (List ℕ)) → IsRead limit number before fields (row_of limit number before fields)
row-read limit number before fields =
    cond_both (nat_lt limit number) _ _ (IsRead limit number before fields) (λ over. first-of _ [] _ CaptureKind.TooMany tt (grind (arith, nat_tests))) (λ few.
    fields-read limit number before fields (grind (arith, nat_tests)))

-- what holds of a row that was read and the rows after it, and of one that breaks a rule
pub row_then-by : (P : Rows → Type 0) (limit number before : ℕ) (fields : List (List ℕ)) (rest : ℕ → Rows)
    → ((r : LineByte) → row_of limit number before fields ≡ Ok r → P (good_row r (rest r.time_us)))
    → ((k : CaptureKind) → row_of limit number before fields ≡ Err k → P (bad_row (row_fault number fields k)))
    → P (row_then number fields (row_of limit number before fields) rest)
row_then-by P limit number before fields rest good bad =
    elim (row_of limit number before fields) as (λ o. row_of limit number before fields ≡ o → P (row_then number fields o rest)) [ Ok r ↦ good r | Err k ↦ bad k ] refl

-- the same of rows from a number on, after a row of this time
pub record HasPartFrom (limit number before : ℕ) (rows : List (List (List ℕ))) (held : Rows) : Type 0 where
  pub good : List (List (List ℕ))
  pub left : List (List (List ℕ))
  pub split : rows ≡ good ++ left
  pub are_good : AreGood limit number before good held.records
  pub are_left : (n : ℕ) → n ≡ length good + number → AreLeft limit n (last_time before held.records) left held.fault

pub part-from : (limit number before : ℕ) (rows : List (List (List ℕ))) → HasPartFrom limit number before rows (rows_from limit number before rows)
part-from limit number before [] = record { good = []; left = []; split = refl; are_good = refl; are_left = λ n e. refl }
part-from limit number before (fields ∷ rest) =
    row_then-by (HasPartFrom limit number before (fields ∷ rest)) limit number before fields (λ time. rows_from limit (number + 1) time rest) (λ r e.
    let m = part-from limit (number + 1) r.time_us rest in
    let read = rw e at (row-read limit number before fields) in
    record {
      good = fields ∷ m.good;
      left = m.left;
      split = ap (λ (l : List (List (List ℕ))). fields ∷ l) m.split;
      are_good = (read.0, read.1, m.are_good);
      are_left = λ n e. m.are_left n (omega arith);
    }) (λ k e.
    let read = rw e at (row-read limit number before fields) in
    record { good = []; left = fields ∷ rest; split = refl; are_good = refl; are_left = λ n e. let same : n ≡ number = omega arith in rw same (k, read, refl) })

pub first-part : (limit : ℕ) (header : List (List ℕ)) (rows records : List (List (List ℕ))) → records ≡ header ∷ rows → is_header header ≡ true
    → HasFirstPart limit rows (headed_rows limit records)
first-part limit header rows records same good =
    let m = part-from limit 1 0 rows in
    rw (same, good) (record { good = m.good; left = m.left; split = m.split; are_good = m.are_good; are_left = m.are_left _ refl })

-- ---- what follows of a row that was read, and of one that comes too early

hex-lt : (c d : ℕ) → hex_digit_of c ≡ Some d → d < 16
hex-lt c d e = grind (arith, nat_tests)

byte-lt : (field : List ℕ) (b : ℕ) → byte_in field ≡ Some b → b < 256
byte-lt (x ∷ y ∷ []) b e = grind (arith, hex-lt x, hex-lt y)
byte-lt field b e = cc

-- ---- what is known of a row that was read, and of one that was refused

-- the record of a good row: in its place, in order and in range
pub record IsGood (limit number before : ℕ) (r : LineByte) : Type 0 where
  pub within : number ≤ limit
  pub in_order : before ≤ r.time_us
  pub in_range : r.time_us < 10 ^ 15
  pub is_byte : r.byte < 256

pub row_of-ok : (limit number before : ℕ) (fields : List (List ℕ)) (r : LineByte) → row_of limit number before fields ≡ Ok r → IsGood limit number before r
row_of-ok limit number before fields r e = by fields (rw e at (row-read limit number before fields))
  where
    by : (fields : List (List ℕ)) → IsRead limit number before fields (Ok r) → IsGood limit number before r
    by (a ∷ b ∷ c ∷ []) read =
        let early : r.time_us < before → ⊥ = λ low. read.1 CaptureKind.Backwards (r.time_us, read.0.0, low) in
        let few = read.1 CaptureKind.TooMany in
        record { within = omega arith; in_order = omega arith; in_range = time_in-lt a r.time_us read.0.0; is_byte = byte-lt c r.byte read.0.2 }
    by fields read = absurd read.0

-- a kind of fault that the data row with this number and these fields has
pub record IsRowKind (limit number before : ℕ) (fields : List (List ℕ)) (k : CaptureKind) : Type 0 where
  pub of_text : IsTrue (is_of_text k)
  pub no_header : k ≢ CaptureKind.Header
  pub too_many : (k ≡ CaptureKind.TooMany) ↔ (limit < number)
  pub shown : CanShow before k (shown_in fields k)

-- a rule that a row breaks is that of the field that is shown, where it is a rule of one field
can-show : (limit number before : ℕ) (k : CaptureKind) (fields : List (List ℕ)) → RowBreaks limit k number before fields → CanShow before k (shown_in fields k)
can-show limit number before CaptureKind.Time (a ∷ b ∷ c ∷ []) h = (a, h, refl)
can-show limit number before CaptureKind.Wire (a ∷ b ∷ c ∷ []) h = (b, h, refl)
can-show limit number before CaptureKind.Byte (a ∷ b ∷ c ∷ []) h = (c, h, refl)
can-show limit number before CaptureKind.Backwards (a ∷ b ∷ c ∷ []) h = (a, h.0, h.1, h.2, refl)
can-show limit number before k fields h = grind arith

-- a row breaks rules of a text, and none of the header
pub row_of-err : (limit number before : ℕ) (fields : List (List ℕ)) (k : CaptureKind) → row_of limit number before fields ≡ Err k → IsRowKind limit number before fields k
row_of-err limit number before fields k e =
    let read = rw e at (row-read limit number before fields) in
    record {
      of_text = grind (arith, read.holds);
      no_header = grind (arith, read.holds);
      too_many = (λ is. rw is at read.holds, λ over. grind (arith, nat_tests));
      shown = can-show limit number before k fields read.holds;
    }

-- the fault of a row, of which there is one too many at most, is where that kind of fault is
pub at-its-row : (limit number before : ℕ) (fields : List (List ℕ)) (k : CaptureKind) → 1 ≤ number → number ≤ limit + 1 → IsRowKind limit number before fields k
    → IsAtItsRow limit (row_fault number fields k)
at-its-row limit number before fields k low within known = grind arith

-- after the header no row has the header's fault
pub rows_from-has_header : (limit number before : ℕ) (unread : List (List (List ℕ))) → HasHeader (rows_from limit number before unread)
rows_from-has_header limit number before [] = λ e. cc
rows_from-has_header limit number before (fields ∷ rest) =
    row_then-by HasHeader limit number before fields (λ time. rows_from limit (number + 1) time rest) (λ r e. rows_from-has_header limit (number + 1) r.time_us rest) (λ k e same.
    grind (arith, row_of-err limit number before fields k e))
