-- What always holds of the rows of a text: they are rows that some text can hold.
use Rattle.capture9.proofs.Words.{[], All, All-cons, arith, bad_row, CanBeRows, CanFollow, CanShow, CaptureError, CaptureKind, Err, good_row, HasHeader, headed_rows, is_header}
use Rattle.capture9.proofs.Words.{is_of_text, IsAfter, IsAtItsRow, IsNonDecreasingBy, IsNonDecreasingBy-insert, IsTrue, last_time, length, LineByte, List, Ok, refl}
use Rattle.capture9.proofs.Words.{row_fault, row_of, Rows, rows_from, Some, true, ℕ, ◌+◌, ◌<◌, ◌^◌, ◌↔◌, ◌∷◌, ◌≡◌, ◌≤◌}
use Rattle.capture9.proofs.RuleLemmas.{at-its-row, row_of-err, row_of-ok, row_then-by, rows_from-has_header}

-- the fault of rows that begin with this number, after a row of this time
pub record IsFaultFrom (limit number before : ℕ) (rows : Rows) (e : CaptureError) : Type 0 where
  pub of_text : IsTrue (is_of_text e.kind)
  pub at_its_row : IsAtItsRow limit e
  pub row : e.row ≡ number + length rows.records
  pub shown : CanShow (last_time before rows.records) e.kind e.field

-- rows that begin with this number, after a row of this time
pub record HoldsFrom (limit number before : ℕ) (rows : Rows) : Type 0 where
  pub within : number ≤ limit + 1 → number + length rows.records ≤ limit + 1
  pub after : All (λ r. before ≤ r.time_us) rows.records
  pub in_order : IsNonDecreasingBy (λ r. r.time_us) rows.records
  pub in_range : All (λ r. r.time_us < 10 ^ 15) rows.records
  pub bytes : All (λ r. r.byte < 256) rows.records
  pub fault : 1 ≤ number → number ≤ limit + 1 → (e : CaptureError) → rows.fault ≡ Some e → IsFaultFrom limit number before rows e

holds-bad : (limit number before : ℕ) (fields : List (List ℕ)) (k : CaptureKind) → row_of limit number before fields ≡ Err k → HoldsFrom limit number before (bad_row (row_fault number fields k))
holds-bad limit number before fields k bad =
    let known = row_of-err limit number before fields k bad in
    grind (arith, at-its-row, known.of_text, known.shown)

holds-good : (limit number before : ℕ) (fields : List (List ℕ)) (r : LineByte) (rest : Rows) → row_of limit number before fields ≡ Ok r
    → HoldsFrom limit (number + 1) r.time_us rest
    → HoldsFrom limit number before (good_row r rest)
holds-good limit number before fields r rest good more =
    let known = row_of-ok limit number before fields r good in
    let low = known.in_order in
    record {
      within = λ h. omega (arith, known.within, more.within);
      after = All-cons (λ x. before ≤ x.time_us) r rest.records low (λ k d h. let high = more.after k d h in omega arith);
      in_order = IsNonDecreasingBy-insert (λ x. x.time_us) rest.records 0 r more.in_order (omega arith) (λ k d low. absurd (omega arith))
          (λ k d low within. more.after k d within);
      in_range = All-cons (λ x. x.time_us < 10 ^ 15) r rest.records known.in_range more.in_range;
      bytes = All-cons (λ x. x.byte < 256) r rest.records known.is_byte more.bytes;
      fault = λ first last e h. let within = known.within in let wrong = more.fault (omega arith) (omega arith) e h in grind arith;
    }

pub holds-from : (limit number before : ℕ) (unread : List (List (List ℕ))) → HoldsFrom limit number before (rows_from limit number before unread)
holds-from limit number before [] = grind arith
holds-from limit number before (fields ∷ rest) =
    row_then-by (HoldsFrom limit number before) limit number before fields (λ time. rows_from limit (number + 1) time rest)
    (λ r good. holds-good limit number before fields r _ good (holds-from limit (number + 1) r.time_us rest)) (holds-bad limit number before fields)

-- the header is there where the first CSV record is one
pub has-header : (limit : ℕ) (records : List (List (List ℕ)))
    → HasHeader (headed_rows limit records) ↔ ((fields : List (List ℕ)) × (rest : List (List (List ℕ))) × (records ≡ fields ∷ rest) × (is_header fields ≡ true))
has-header limit [] = (λ h. absurd (h refl), λ w. let none = w.2 in cc)
has-header limit (fields ∷ rest) = (λ h. (fields, rest, refl, grind arith), λ w. grind (arith, rows_from-has_header limit 1 0 rest))

-- ---- rows that some text can hold

-- a fault of a data row can follow the records before it
pub can-follow : (limit : ℕ) (k : CaptureKind) (items : List LineByte) (row : ℕ) → IsTrue (is_of_text k) → (k ≡ CaptureKind.Header) ↔ (row ≡ 0)
    → (k ≡ CaptureKind.TooMany) ↔ (row ≡ limit + 1) → row ≡ length items + 1 → length items ≤ limit → CanFollow limit k items row
can-follow limit k items row t header too_many place within = grind arith

headed-can-be : (limit : ℕ) (rows : Rows) → HoldsFrom limit 1 0 rows → CanBeRows limit rows
headed-can-be limit rows h = let within : length rows.records ≤ limit = omega (arith, h.within (omega arith)) in record {
  within = within;
  in_order = h.in_order;
  in_range = h.in_range;
  bytes = h.bytes;
  fault = grind (arith, h.fault, can-follow);
  shown = grind (arith, h.fault);
}

pub can-be : (limit : ℕ) (csv : List (List (List ℕ))) → CanBeRows limit (headed_rows limit csv)
can-be limit [] = grind arith
can-be limit (fields ∷ rest) = grind (arith, headed-can-be limit (rows_from limit 1 0 rest) (holds-from limit 1 0 rest))

-- what a fault that can follow records says of itself
pub of-fault : (limit : ℕ) (csv : List (List (List ℕ))) (e : CaptureError) → (headed_rows limit csv).fault ≡ Some e
    → IsTrue (is_of_text e.kind) × IsAfter limit (headed_rows limit csv).records e
of-fault limit csv e same = let follows = rw same at (can-be limit csv).fault in grind arith
