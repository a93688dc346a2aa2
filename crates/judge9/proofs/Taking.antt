-- What a judging comes to first, and after a break.
use Rattle.judge9.proofs.Words.{[], append-nil, append_assoc, arith, Beginning, begins_next_part, Break, cases_Bool, ComesFirst, ComesTo, false, Feed, Fits, from_command, GoesOn, History, inl, inr}
use Rattle.judge9.proofs.Words.{IsBehind, IsFresh, IsWithin, JudgeError, length, length-append, length_push, LineByte, List, nothing_told, Option, refl, Result, Rows, Some, sym, TakesUp, Terms}
use Rattle.judge9.proofs.Words.{told_in, Turn, ℕ, ◌++◌, ◌+◌, ◌∷◌, ◌≡◌}
use Rattle.judge9.proofs.Coming.{Arrives, begins, comes, resumes, starts}
use Rattle.judge9.proofs.PartSteps.{judged_with, none_judged, passed_all, passed_to}
use Rattle.judge9.proofs.ReadSteps.{read_next, read_none}

nothing_fits : (past : List LineByte) → Fits [] past
nothing_fits past = record { exchanges = omega arith; records = omega arith }

pub first_arrives : {R : Type 0} {limit : ℕ} {terms : Terms} (beginning : Beginning) (rows : Option Rows) (j k : Feed R) (r : Result Turn JudgeError) → IsFresh limit terms j → j.rows.rows ≡ rows
    → ComesFirst terms beginning j r k → Arrives limit terms beginning rows nothing_told r k
first_arrives Beginning.FirstRecord rows j k r fresh same come =
    rw (← same) (comes (starts nothing_told refl refl fresh.knows_nothing (read_none fresh) (nothing_fits [])) (λ more others left parts. parts) come)
first_arrives Beginning.FirstCommand rows j k r fresh same come =
    rw (← same) (resumes nothing_told refl refl (read_none fresh) (λ passed. nothing_fits passed)
    (λ passed first none may more others left parts. rw (judged_with passed first none may more).same parts)
    (λ passed none others left parts. rw (none_judged passed none).same parts) come)

module _ {R : Type 0} {limit : ℕ} {terms : Terms} {beginning : Beginning} {rows : Option Rows} {h : History} {b : Break} {j : Feed R} (s : IsBehind limit terms beginning rows h b j) where
  -- the records that were read, and those that were passed over
  abbrev read_past : List LineByte → List LineByte
  read_past passed = (s.past ++ b.record ∷ []) ++ passed

  past_size : (passed : List LineByte) → length (read_past passed) ≡ (length s.past + 1) + length passed
  past_size passed = omega (arith, length-append (s.past ++ b.record ∷ []) passed, length_push s.past b.record)

  fits_past : (passed : List LineByte) → Fits h.broken (read_past passed)
  fits_past passed = record { exchanges = omega (arith, s.fits.exchanges, past_size passed); records = omega (arith, s.fits.records, past_size passed) }

  -- where the next part begins behind those
  ahead : begins_next_part b.reason b.record ≡ false → (passed more : List LineByte)
      → from_command (length s.past + 1) (Some b.record) (passed ++ more) ≡ record { past = (length s.past + 1) + length passed; records = more }
      → GoesOn terms beginning h.broken (read_past passed) more
  ahead after passed more rest = λ others left parts.
      rw (append_assoc (s.past ++ b.record ∷ []) passed more, append_assoc s.past (b.record ∷ []) (passed ++ more))
      (s.on (passed ++ more) others left (rw (after, rest) (rw (past_size passed) at parts)))

  pub up_arrives : {k : Feed R} (r : Result Turn JudgeError) → TakesUp terms b j r k → Arrives limit terms beginning rows h r k
  up_arrives r (inl (is, same)) = inl is
  up_arrives r (inr taken) =
      let none_kept : h.part.exchanges ≡ [] = rw s.none_told refl in
      let none_told : told_in h ≡ [] = rw (s.none_told, s.none_besides) refl in
      elim (cases_Bool (begins_next_part b.reason b.record)) [
        | inl is ↦
            let new = (rw is at taken) s.before s.gives in
            begins (starts h none_kept none_told new.knows_nothing s.are_read s.fits) (λ more others left parts. s.on more others left (rw is parts)) new.with_first
        | inr after ↦
            let read = read_next rows s.past s.before j.rows b.record s.are_read s.gives in
            resumes h none_kept none_told read fits_past
            (λ passed first none may more. ahead after passed (first ∷ more) (passed_to (length s.past + 1) (Some b.record) passed first more none may))
            (λ passed none. ahead after passed [] (rw append-nil (passed_all (length s.past + 1) (Some b.record) passed none))) (rw after at taken)
      ]

-- a part that goes on
pub going_arrives : {R : Type 0} {limit : ℕ} {terms : Terms} {beginning : Beginning} {rows : Option Rows} {h : History} {j k : Feed R} {r : Result Turn JudgeError}
    → IsWithin limit terms beginning rows h j → ComesTo j r k → Arrives limit terms beginning rows h r k
going_arrives {h = h} s come = comes (record {
  past = s.past;
  part = h.part;
  in_part = s.in_part;
  exchanges = refl;
  events = rw s.none_besides (sym (append-nil h.part.events));
  still = λ nil. inr (refl, nil);
  fits = s.fits;
}) s.on come
