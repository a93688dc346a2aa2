use Rattle.capture9.proofs.Words.{CaptureError, CaptureKind, Err, IfErr, LineByte, List, Ok, refl, Result, row_fault, ℕ, ◌≡◌}
use Rattle.capture9.specs.declared.records.Stage.TheVariants.{the_data as Stage}
use Rattle.capture9.proofs.records.refuse_row.Goals as goal

marked : (o : Result LineByte CaptureKind) (number : ℕ) (fields : List (List ℕ)) (e : CaptureError) → IfErr o (λ k. e ≡ row_fault number fields k)
    → IfErr o (λ k. Stage.Refused e ≡ Stage.Refused (row_fault number fields k))
marked (Ok r) number fields e h = tt
marked (Err k) number fields e h = rw h refl

pub returns : goal.returns
returns c = λ before. marked _ _ _ c.fault_in.result (c.fault_in.ensures before)
