-- Why a record broke a rule.
use Rattle.judge9.proofs.Words.{[], ap, arith, BeginsLate, Break, Err, Exchange, IfOk, inl, inr, IsOpenAfter, length, LineByte, LineRules, List, Ok, OnOk, Open, Option, Paired, Profile, Reason}
use Rattle.judge9.proofs.Words.{Result, SaysNoRun, SaysWhy, Some, take, take-append_seam, take_all, WhyNo, ℕ, ◌++◌, ◌∙◌, ◌∷◌, ◌≡◌, ◌⊎◌}
use Rattle.std.specs.declared.alloc.AllocError.{AllocError}
use Rattle.block9.proofs.FeedLemmas.{open_after_late, open_before_late}

-- what follows where it went well
pub follows_ok : {T E P Q : Type 0} (r : Result T E) → (P → Q) → OnOk r P → OnOk r Q
follows_ok (Ok t) to is = to is
follows_ok (Err e) to is = tt

-- a text that was put into an empty buffer
pub put_alone : (old new text : List ℕ) → old ≡ [] → new ≡ old ++ text → new ≡ text
put_alone old new text nil is = rw nil at is

-- what is said of the exchanges is said of the break
pub no_run_said : (profile : Profile) (at : ℕ) (b : Break) (paired : Paired) (es : List Exchange) (end_us : Option ℕ) (e : Exchange) → b.reason ≡ Reason.NoRun
    → paired.exchange ≡ Some e → (r : Result WhyNo AllocError) → IfOk r (SaysNoRun profile at (es ++ e ∷ [])) → IfOk r (SaysWhy profile at b paired es end_us)
no_run_said profile at b paired es end_us e no_run shown (Ok (WhyNo.Break number x tail o before breaking)) says = absurd says
no_run_said profile at b paired es end_us e no_run shown (Ok (WhyNo.Contradiction number exchanges places known modes)) says = (no_run, e, shown, says)
no_run_said profile at b paired es end_us e no_run shown (Err x) says = tt

-- why a reply is late: what is open of its command
pub late_said : (rules : LineRules) (tail asked items : List LineByte) (r : LineByte) (o : Open) → IsOpenAfter rules tail o → items ≡ take o.asked tail
    → BeginsLate rules asked r → (tail ≡ asked) ⊎ (tail ≡ asked ++ r ∷ [])
    → (items ≡ asked) × IsOpenAfter rules asked (record { command = o.command; asked = o.asked; answered = 0; wanted = 0; sum = 0 })
late_said rules tail asked items r o opened is late (inl same) =
    let whole = late.asked.2 in
    let told = open_before_late rules asked late.asked.0 late.asked.1 o whole (rw same at opened) in
    (is ∙ ap (λ n. take n tail) told.0 ∙ ap (take (length asked)) same ∙ take_all (length asked) asked (omega arith), told.1)
late_said rules tail asked items r o opened is late (inr same) =
    let told = open_after_late rules asked r late.asked.0 late.asked.1 o late.asked.2 (rw same at opened) in
    (is ∙ ap (λ n. take n tail) told.0 ∙ ap (take (length asked)) same ∙ take-append_seam asked (r ∷ []), told.1)
