-- The next CSV record is the first of those that were left, and so is its row of the rows to come.
use Rattle.capture9.proofs.Words.{arith, CaptureError, CaptureKind, Err, fields_of, IfErr, LineByte, List, nat_tests, None, Ok, refl, Result, result_ok, row_fault, Some, sym, unread_records, ℕ, ◌≡◌}
use Rattle.capture9.proofs.RecordsLemmas.{bad-first, gives-record, IsRowFault, not-of-text, refused-holds, refuses-marked, refuses-row}
use Rattle.capture9.specs.declared.records.Stage.TheVariants.{the_data as Stage}
use Rattle.capture9.proofs.records.Records.read_row.Given.{Over}
use Rattle.capture9.proofs.records.Records.read_row.Goals as goal
use Rattle.capture9.proofs.records.Records.read_row.Goals.{After-refusal, After-refuse}

-- a row is told as its record, where it has one, and else as the first rule that it breaks
told-record : (o : Result LineByte CaptureKind) (r : LineByte) → Some r ≡ result_ok o → o ≡ Ok r
told-record o r e = grind arith

told-fault : (o : Result LineByte CaptureKind) (number : ℕ) (fields : List (List ℕ)) (stage : Stage) → None ≡ result_ok o
    → IfErr o (λ k. stage ≡ Stage.Refused (row_fault number fields k)) → (k : CaptureKind) × (o ≡ Err k) × (stage ≡ Stage.Refused (row_fault number fields k))
told-fault (Ok r) number fields stage none told = cc
told-fault (Err k) number fields stage none told = (k, refl, told)

pub returns-in-Some-clause-given : goal.returns-in-Some-clause-given
returns-in-Some-clause-given g c =
    let before = rw (← c.self.view_is) at c.requires in
    let read = rw c.in-Ok-true.field-0-test at c.in-Ok-true.ensures.next in
    rw (← c.self.view_is) (gives-record _ _ _ _ _ _ _ _ (fields_of c.read_record.new.row) c.in-Some.record before.reading before.headed read
    (told-record _ _ c.in-Some.ensures) c.self.invariant.numbered)

-- what is wrong with the row is marked
abbrev Marked : (g : Over) → After-refusal g → Type 0
Marked g c =
    (e : CaptureError) × (c.refuse_row.new.stage ≡ Stage.Refused e)
    × IsRowFault c.self.inside.most_rows c.self.inside.given c.self.inside.last_time (unread_records g.R.Read.remaining c.self.inside.reader) e

marked : (g : Over) (c : After-refusal g) → Marked g c
marked g c =
    let told = told-fault _ _ _ _ c.in-None.ensures (c.refuse_row.ensures c.self.inside.last_time) in (
      _,
      told.2,
      bad-first _ _ _ _ (unread_records g.R.Read.remaining c.read_record.new.reader) (fields_of c.read_record.new.row) told.0
          c.self.invariant.within (rw c.in-Ok-true.field-0-test at c.in-Ok-true.ensures.next) told.1,
    )

pub returns-in-None-clause-refused : goal.returns-in-None-clause-refused
returns-in-None-clause-refused g c =
    let (e, is, wrong) = marked g c in
    refuses-marked _ _ _ _ _ _ _ _ _ _ e c.refusal.result (sym c.self.view_is) (c.refusal.ensures e is) c.requires.reading c.requires.headed is wrong

pub returns-in-None-clause-given : goal.returns-in-None-clause-given
returns-in-None-clause-given g c = let (e, is, wrong) = marked g c in rw (c.refusal.ensures e is) tt

pub returns-in-None-clause-ended : goal.returns-in-None-clause-ended
returns-in-None-clause-ended g c = let (e, is, wrong) = marked g c in rw (c.refusal.ensures e is) tt

pub returns-in-None-clause-stays_headed : goal.returns-in-None-clause-stays_headed
returns-in-None-clause-stays_headed g c = let (e, is, wrong) = marked g c in rw is (grind (arith, nat_tests, wrong.row))

pub invariant_of-self-in-None : goal.invariant_of-self-in-None
invariant_of-self-in-None g c =
    let (e, is, wrong) = marked g c in
    refused-holds _ _ _ _ _ e c.self.invariant.within c.self.invariant.numbered wrong.row is wrong.at_its_row

-- or that the fault is not of the text
outside : (g : Over) (c : After-refuse g) → IsRowFault c.self.inside.most_rows c.self.inside.given c.self.inside.last_time (unread_records g.R.Read.remaining c.self.inside.reader)
    c.of_row.result
outside g c = rw c.of_row.ensures (not-of-text _ _ _ _ _ c.in-Err.ensures.refused)

pub returns-in-Err-clause-refused : goal.returns-in-Err-clause-refused
returns-in-Err-clause-refused g c =
    let before = rw (← c.self.view_is) at c.requires in
    rw (← c.self.view_is) (refuses-row _ _ _ _ _ _ _ _ _ c.refuse.result before.reading before.headed c.refuse.ensures.marked
    (rw (← c.refuse.ensures.error) at (outside g c)))

pub invariant_of-self-in-Err : goal.invariant_of-self-in-Err
invariant_of-self-in-Err g c =
    let is = rw (← c.refuse.ensures.error) at (outside g c) in
    refused-holds _ _ _ _ _ c.refuse.result c.self.invariant.within c.self.invariant.numbered is.row c.refuse.ensures.marked is.at_its_row
