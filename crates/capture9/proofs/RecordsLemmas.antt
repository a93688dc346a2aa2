-- What the reading of one CSV record does to a `Records`, as its callers see it.
use Rattle.capture9.proofs.Words.{arith, bad_row, CanShow, CaptureError, CaptureKind, Err, false, GivesRecord, GivesRefusal, greatest_limit, HasHeader, HoldsInRecords, IfErr, IfSome, is_of_text, is_past_header, IsAfter}
use Rattle.capture9.proofs.Words.{IsAtItsRow, IsPlaced, IsTrue, length, LineByte, List, nat_tests, nil_from_length, None, Ok, Option, option_map, Progress, Reader, refl, Result, row_fault, row_of}
use Rattle.capture9.proofs.Words.{rows_from, rows_to_come, Some, Stage, Standing, standing_at, sym, TakesFields, TakesRecord, true, true≢false, ℕ, ◌+◌, ◌≡◌, ◌≤◌}
use Rattle.capture9.proofs.RuleLemmas.{at-its-row, row_of-err, row_of-ok, rows_from-has_header}

-- how callers see a `Records` with these fields, these CSV records unread, and this reader
abbrev pub progress_of : {R : Type 0} → ℕ → Stage → ℕ → ℕ → Option (List (List (List ℕ))) → R → Progress R
progress_of limit stage count time unread reader =
    record { rows = rows_to_come limit stage count time unread; most_rows = limit; given = count; is_headed = is_past_header stage; last_time = time; standing = standing_at stage; source = reader }

-- one that reads on behind the header is in the rows
pub in-rows : (s : Stage) → standing_at s ≡ Standing.Reading → is_past_header s ≡ true → s ≡ Stage.InRows
in-rows Stage.BeforeHeader reads past = absurd (true≢false (sym past))
in-rows Stage.InRows reads past = refl
in-rows Stage.Ended reads past = grind arith
in-rows (Stage.Refused e) reads past = grind arith

-- a good row is the first of those to come
takes-row : (limit given last_time : ℕ) (unread after : Option (List (List (List ℕ)))) (fields : List (List ℕ)) (r : LineByte)
    → IfSome unread (λ rows. TakesFields rows true fields after) → row_of limit (given + 1) last_time fields ≡ Ok r
    → TakesRecord (option_map (rows_from limit (given + 1) last_time) unread) r (option_map (rows_from limit (given + 1 + 1) r.time_us) after)
takes-row limit given last_time None after fields r read good = tt
takes-row limit given last_time (Some rows) after fields r read good = rw (read.1, read.2) (rows_from limit (given + 1 + 1) r.time_us read.0, refl, rw good refl)

-- after the header none of the rows to come has the header's fault
past-header : (limit given last_time : ℕ) (unread : Option (List (List (List ℕ)))) → IfSome (option_map (rows_from limit (given + 1) last_time) unread) HasHeader
past-header limit given last_time unread = grind (arith, rows_from-has_header)

pub gives-record : {R : Type 0} (source left : R) (s : Stage) (limit given last_time : ℕ) (unread after : Option (List (List (List ℕ))))
    (fields : List (List ℕ)) (r : LineByte)
    → standing_at s ≡ Standing.Reading → is_past_header s ≡ true
    → IfSome unread (λ rows. TakesFields rows true fields after) → row_of limit (given + 1) last_time fields ≡ Ok r → limit ≤ greatest_limit
    → GivesRecord (progress_of limit s given last_time unread source) r (progress_of limit s (given + 1) r.time_us after left)
gives-record source left s limit given last_time unread after fields r reads past read good numbered =
    let known = row_of-ok limit (given + 1) last_time fields r good in
    let few : given + 1 ≤ greatest_limit = omega (arith, known.within) in
    rw (in-rows s reads past) (search (few, past-header limit given last_time unread, takes-row limit given last_time unread after fields r read good))

-- what is wrong with the first of the rows to come, if it is a fault of the text
pub record IsRowFault (limit given last_time : ℕ) (unread : Option (List (List (List ℕ)))) (e : CaptureError) : Type 0 where
  pub row : e.row ≡ given + 1
  pub fault : IsTrue (is_of_text e.kind) → IfSome (option_map (rows_from limit (given + 1) last_time) unread) (λ rows. rows ≡ bad_row e)
  pub at_its_row : IsTrue (is_of_text e.kind) → IsAtItsRow limit e
  pub shown : CanShow last_time e.kind e.field

-- a fault that is not of the text
pub not-of-text : (limit given last_time : ℕ) (unread : Option (List (List (List ℕ)))) (k : CaptureKind) → is_of_text k ≡ false
    → IsRowFault limit given last_time unread (record { kind = k; row = given + 1; field = None })
not-of-text limit given last_time unread k e = grind arith

-- a row that breaks a rule
pub bad-first : (limit given last_time : ℕ) (unread after : Option (List (List (List ℕ)))) (fields : List (List ℕ)) (k : CaptureKind) → given ≤ limit
    → IfSome unread (λ rows. TakesFields rows true fields after) → row_of limit (given + 1) last_time fields ≡ Err k
    → IsRowFault limit given last_time unread (row_fault (given + 1) fields k)
bad-first limit given last_time unread after fields k within read bad =
    let known = row_of-err limit (given + 1) last_time fields k bad in
    grind (arith, at-its-row limit (given + 1) last_time fields k (omega arith) (omega arith) known, known.shown)

pub refuses-row : {R : Type 0} (source left : R) (s new : Stage) (limit given last_time : ℕ) (unread after : Option (List (List (List ℕ))))
    (e : CaptureError)
    → standing_at s ≡ Standing.Reading → is_past_header s ≡ true → new ≡ Stage.Refused e → IsRowFault limit given last_time unread e
    → GivesRefusal (progress_of limit s given last_time unread source) e (progress_of limit new given last_time after left)
refuses-row source left s new limit given last_time unread after e reads past marked wrong =
    rw (in-rows s reads past, marked) (grind (arith, nat_tests, past-header limit given last_time unread))

-- and the answer is that refusal
pub refuses-marked : {R : Type 0} (old : Progress R) (source left : R) (s new : Stage) (limit given last_time : ℕ) (unread after : Option (List (List (List ℕ))))
    (e : CaptureError) (answer : Result (Option LineByte) CaptureError) → old ≡ progress_of limit s given last_time unread source → answer ≡ Err e
    → old.standing ≡ Standing.Reading → old.is_headed ≡ true → new ≡ Stage.Refused e → IsRowFault limit given last_time unread e
    → IfErr answer (λ told. GivesRefusal old told (progress_of limit new given last_time after left))
refuses-marked old source left s new limit given last_time unread after e answer view is reading headed marked wrong =
    let at_reading : standing_at s ≡ Standing.Reading = rw view at reading in
    let past : is_past_header s ≡ true = rw view at headed in
    rw (is, view) (refuses-row source left s new limit given last_time unread after e at_reading past marked wrong)

-- what stands inside a `Records` that was refused at a row
pub refused-holds : {R : Type 0} (left : Reader R) (new : Stage) (limit given last_time : ℕ) (e : CaptureError)
    → given ≤ limit → limit ≤ greatest_limit → e.row ≡ given + 1 → new ≡ Stage.Refused e
    → (IsTrue (is_of_text e.kind) → IsAtItsRow limit e) → HoldsInRecords limit new given last_time left
refused-holds left new limit given last_time e within numbered row marked at_its_row = rw marked (grind (arith, nat_tests))

-- a refusal is told again, and nothing changes
pub refuses-again : {R : Type 0} (source : R) (s : Stage) (limit given last_time : ℕ) (unread : Option (List (List (List ℕ)))) (e : CaptureError)
    → s ≡ Stage.Refused e → IsPlaced limit (is_past_header s) given e → GivesRefusal (progress_of limit s given last_time unread source) e
    (progress_of limit s given last_time unread source)
refuses-again source s limit given last_time unread e refused placed = rw refused (grind arith)

-- where a refusal stands that came after these records
pub refused-after : {R : Type 0} {limit : ℕ} (old new : Progress R) (e : CaptureError) (items : List LineByte) → GivesRefusal old e new → old.most_rows ≡ limit
    → old.given ≡ length items → IsAfter limit items e
refused-after old new e items refusal same count = rw (← same) (grind (arith, nil_from_length items))
