-- What is told of the records of a part, with one record more.
use Rattle.judge9.proofs.Words.{[], ap, append-nil, append_assoc, AreOutcomes, arith, BeginsLate, Block, Command, Controller, Cut, cut_once, Does, Event, events_by, Exchange, exchange}
use Rattle.judge9.proofs.Words.{exchanges_after, IsCommand, late_replies, late_reply, length, length_push, LineByte, LineRules, List, Outcome, refl, same_parts, subst, sym, tail_after, ℕ, ◌++◌, ◌+◌}
use Rattle.judge9.proofs.Words.{◌∙◌, ◌∷◌, ◌≡◌}
use Rattle.block9.proofs.LineLemmas.{block_len-append, whole_len, whole_long}
use Rattle.judge9.proofs.CutSteps.{cut-step}

-- lists that are one with a last element each are one, and so is that
pub push_once : {X : Type 0} (a b : List X) (x y : X) → a ++ x ∷ [] ≡ b ++ y ∷ [] → (a ≡ b) × (x ≡ y)
push_once a b x y same =
    let parts = same_parts a b (x ∷ []) (y ∷ []) (omega (arith, ap length same, length_push a x, length_push b y)) same in
    (parts.0, let last = parts.1 in cc)

-- how many late replies there are
pub late_joined : (a b : List Event) → late_replies (a ++ b) ≡ late_replies a + late_replies b
late_joined [] b = omega arith
late_joined (late_reply at asked r ∷ a) b = omega (arith, late_joined a b)
late_joined (exchange at before e ∷ a) b = late_joined a b

-- no command ends twice
pub command_twice : (rules : LineRules) (t : List LineByte) (r : LineByte) → BeginsLate rules t r → (b : Block) (c : Command) → IsCommand rules (t ++ r ∷ []) b c → ⊥
command_twice rules t r late b c whole =
    let long = whole_long Controller t late.asked.0 late.asked.2.whole in
    omega (
      arith,
      length_push t r,
      whole_len Controller t late.asked.0 late.asked.2.whole,
      whole_len Controller (t ++ r ∷ []) b whole.whole,
      block_len-append t (r ∷ []) (omega arith),
    )

-- what is told of one record more
pub events_push : (rules : LineRules) (p : List LineByte) (past : ℕ) (es : List Exchange) (tail records : List LineByte) (r : LineByte) (events : List Event)
    (fs : List Exchange) (now : List LineByte) (o : Outcome) → Cut rules p es tail → Cut rules (p ++ records) fs now → AreOutcomes rules past es tail records events
    → Does rules now r o → AreOutcomes rules past es tail (records ++ r ∷ []) (events ++ events_by (past + length records + 1) fs now r o)
events_push rules p past es tail [] r events fs now o cut all are done =
    let same = cut_once rules p es fs tail now cut (rw append-nil at all) in
    let at : past + 0 + 1 ≡ past + 1 = omega arith in
    rw (are, at, same.0) (o, [], rw (sym same.1) at done, refl, rw same.1 (sym (append-nil (events_by (past + 1) fs now r o))))
events_push rules p past es tail (x ∷ records) r events fs now o cut all are done =
    let before = cut-step rules p es tail x are.0 cut are.2 in
    let whole = subst (λ l. Cut rules l fs now) (sym (append_assoc p (x ∷ []) records)) all in
    let at : past + length (x ∷ records) + 1 ≡ (past + 1) + length records + 1 = omega arith in
    rw at (
      are.0,
      are.1 ++ events_by ((past + 1) + length records + 1) fs now r o,
      are.2,
      events_push rules (p ++ x ∷ []) (past + 1) (exchanges_after es are.0) (tail_after tail x are.0) records r are.1 fs now o before whole are.3 done,
      ap (λ l. l ++ events_by ((past + 1) + length records + 1) fs now r o) are.4 ∙ append_assoc (events_by (past + 1) es tail x are.0) are.1 _,
    )
