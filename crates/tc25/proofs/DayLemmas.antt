-- Which label names a frame, and what four bytes read as.
use Rattle.std.proofs.Common.{[], ap, arith, List, None, not, Option, refl, Some, suc, sym, true, zero, ◌&&◌, ◌*◌, ◌+◌, ◌-◌, ◌/◌, ◌%◌, ◌<◌, ◌≤◌, ◌==◌, ◌∙◌, ◌∷◌, ◌≡◌, ◌≢◌, nat_lt, if◌then◌else◌, ℕ}
use Rattle.std.proofs.lemmas.Grind.{common_steps}
use Rattle.std.specs.Prelude.{option_and_then}
use Rattle.tc25.specs.Day.{bcd, bytes_of, bytes_of_label, day, digits_of, frame_named, frames_of, hours_of, is_label, label_of, label_spelled, labels_before, labels_in_day, longest_day, masked, minutes_of, ReadsAs, seconds_of, time_of}
use Rattle.tc25.specs.declared.rate.Rate.{Rate}
use Rattle.tc25.specs.declared.rate.Rate.TheVariants.{Fps24, Fps25, Fps30, DropFrame}

-- ---- the label of a frame

-- the label of a frame names it
pub label_named : (rate : Rate) (t : ℕ) → t < day rate → (frame_named rate (label_of rate t) ≡ Some t) × (label_of rate t < labels_in_day rate)
label_named rate t low = grind (arith, common_steps)

-- the frame that a label names has that label
pub named_label : (rate : Rate) (label t : ℕ) → label < labels_in_day rate → frame_named rate label ≡ Some t → (t < day rate) × (label_of rate t ≡ label)
named_label rate label t low e = grind (arith, common_steps)

-- a day has frames
pub some_day : (rate : Rate) → 0 < day rate
some_day rate = grind arith

-- ---- what four bytes read as

-- a byte of two digits spells a number where it is the byte of that number
digits_spell : (greatest byte n : ℕ) → digits_of greatest byte ≡ Some n → (n ≤ greatest) × (byte ≡ bcd n)
digits_spell greatest byte n e = grind (arith, common_steps)

-- the bytes of a label spell it, and no others do
label_bytes : (rate : Rate) (bytes : List ℕ) (label : ℕ) → label_spelled rate bytes ≡ Some label → (label < labels_in_day rate) × (bytes ≡ bytes_of_label rate label)
label_bytes Fps24 (f ∷ s ∷ m ∷ h ∷ []) label e = grind (arith, common_steps, digits_spell 23 f, digits_spell 59 s, digits_spell 59 m, digits_spell 23 h)
label_bytes Fps25 (f ∷ s ∷ m ∷ h ∷ []) label e = grind (arith, common_steps, digits_spell 24 f, digits_spell 59 s, digits_spell 59 m, digits_spell 23 h)
label_bytes Fps30 (f ∷ s ∷ m ∷ h ∷ []) label e = grind (arith, common_steps, digits_spell 29 f, digits_spell 59 s, digits_spell 59 m, digits_spell 23 h)
label_bytes DropFrame (f ∷ s ∷ m ∷ h ∷ []) label e = grind (arith, common_steps, digits_spell 29 f, digits_spell 59 s, digits_spell 59 m, digits_spell 23 h)
label_bytes _ _ label e = grind arith

bytes_spell : (rate : Rate) (label : ℕ) → label < labels_in_day rate → label_spelled rate (bytes_of_label rate label) ≡ Some label
bytes_spell rate label low = grind (arith, common_steps)

-- each is a byte
pub label_bytes_low : (rate : Rate) (label : ℕ) → label < labels_in_day rate
    → (bcd (frames_of rate label) < 256) × (bcd (seconds_of rate label) < 256) × (bcd (minutes_of rate label) < 256) × (bcd (hours_of rate label) < 256)
label_bytes_low rate label low = (grind arith, grind arith, grind arith, grind arith)

-- the time given is read
pub given_reads : (rate : Rate) (bytes : List ℕ) (t : ℕ) → time_of rate bytes ≡ Some t → ReadsAs rate bytes t
unfolding time_of
given_reads rate bytes t e = by (label_spelled rate (masked bytes)) refl e
  where
    by : (o : Option ℕ) → label_spelled rate (masked bytes) ≡ o → option_and_then (frame_named rate) o ≡ Some t → ReadsAs rate bytes t
    by None is e = grind arith
    by (Some label) is e =
        let spelled = label_bytes rate (masked bytes) label is in
        let named = named_label rate label t spelled.0 e in
        (named.0, spelled.1 ∙ ap (bytes_of_label rate) (sym named.1))

-- a time that is read is given
pub read_given : (rate : Rate) (bytes : List ℕ) (t : ℕ) → ReadsAs rate bytes t → time_of rate bytes ≡ Some t
unfolding time_of
read_given rate bytes t r =
    let named = label_named rate t r.0 in
    ap (λ bs. option_and_then (frame_named rate) (label_spelled rate bs)) r.1
    ∙ ap (option_and_then (frame_named rate)) (bytes_spell rate (label_of rate t) named.1) ∙ named.0

-- the bytes of a time read as it
pub bytes_read : (rate : Rate) (t : ℕ) → t < day rate → time_of rate (bytes_of rate t) ≡ Some t
bytes_read rate t low = read_given rate (bytes_of rate t) t (low, plain rate (label_of rate t) (label_named rate t low).1)
  where
    plain : (rate : Rate) (label : ℕ) → label < labels_in_day rate → masked (bytes_of_label rate label) ≡ bytes_of_label rate label
    plain rate label low = grind (arith, common_steps)

-- so where none is given none is read, and the time read is one of the day
pub none_reads : (rate : Rate) (bytes : List ℕ) → time_of rate bytes ≡ None → (t : ℕ) → ¬ ReadsAs rate bytes t
none_reads rate bytes none t reads = let some = read_given rate bytes t reads in cc

pub given_below : (rate : Rate) (bytes : List ℕ) (t : ℕ) → time_of rate bytes ≡ Some t → t < longest_day
given_below rate bytes t e = let low = (given_reads rate bytes t e).0 in grind arith

-- ---- how many labels come before one

-- with those that are left out before it: two in each minute that is no multiple of ten, and in its own the first two as they come
counted : (label : ℕ) → labels_before DropFrame label + 2 * (label / 1800 - label / 18000)
    ≡ label + (if nat_lt (label % 1800) 2 && not (label / 1800 % 10 == 0) then 2 - label % 1800 else 0)
counted zero = grind (arith, common_steps)
counted (suc n) = let before = counted n in grind (arith, common_steps)

all_counted : (rate : Rate) (label : ℕ) → rate ≢ DropFrame → labels_before rate label ≡ label
all_counted rate zero other = grind (arith, common_steps)
all_counted rate (suc n) other = let before = all_counted rate n other in grind (arith, common_steps)

-- a label names the frame that has as many labels before it
pub frame_counted : (rate : Rate) (label t : ℕ) → (frame_named rate label ≡ Some t) → (labels_before rate label ≡ t) × (is_label rate label ≡ true)
frame_counted DropFrame label t e = let all = counted label in grind (arith, common_steps)
frame_counted rate label t e = let all = all_counted rate label (λ same. cc) in grind (arith, common_steps)

pub counted_frame : (rate : Rate) (label t : ℕ) → is_label rate label ≡ true → labels_before rate label ≡ t → frame_named rate label ≡ Some t
counted_frame DropFrame label t is before = let all = counted label in grind (arith, common_steps)
counted_frame rate label t is before = let all = all_counted rate label (λ same. cc) in grind (arith, common_steps)

pub day_counted : (rate : Rate) → labels_before rate (labels_in_day rate) ≡ day rate
day_counted DropFrame = at_end 2592000 refl
  where
    at_end : (label : ℕ) → label ≡ 2592000 → labels_before DropFrame label ≡ 2589408
    at_end label is = let all = counted label in grind (arith, common_steps)
day_counted rate = all_counted rate (labels_in_day rate) (λ same. cc) ∙ grind arith
