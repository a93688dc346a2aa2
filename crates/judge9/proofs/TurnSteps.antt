-- What the rows do whose records come to nothing yet, and what a record comes to.
use Rattle.std.specs.declared.alloc.AllocError.{AllocError}
use Rattle.judge9.proofs.Words.{ap, AreOpen, arith, CaptureError, Comes, ComesTo, Err, Exchange, Feed, Follower, ForSome, GivesEnd, GivesRefusal, inr, IsErrAnd, IsObserved, JudgeError, KnowsNothing}
use Rattle.judge9.proofs.Words.{last_of, LineByte, may_begin, None, Ok, Option, Outcome, Paired, PassesOver, Progress, refusal_of, Result, Resumes, ResumesAfter, Some, Step, step_of, subst, suc, sym}
use Rattle.judge9.proofs.Words.{Takes, Terms, Took, true, Turn, Turned, zero, ℕ, ◌≡◌, ◌≤◌, ◌⊎◌}
use Rattle.judge9.proofs.SoFar.{later}

-- an error that is handed on
pub handed : {T E : Type 0} {x : E} (r : Result T E) → IsErrAnd r (λ y. y ≡ x) → r ≡ Err x
handed (Ok t) is = absurd is
handed (Err y) is = ap Err is

-- ---- rows whose records come to nothing yet

-- what they keep holds after them
pub opened : {R : Type 0} {j : Feed R} (P : Feed R → Type 0) → ((i k : Feed R) (r : LineByte) → P i → Comes i k r None → P k) → (n : ℕ)
    (front : Feed R) → P j → AreOpen n j front → P front
opened P keeps zero front h o = subst P (sym o) h
opened P keeps (suc n) front h o = keeps o.0 front o.2 (opened P keeps n o.0 h o.1) o.3

-- one such row more
pub waits_more : {R : Type 0} {j front k : Feed R} {r : LineByte} → (n : ℕ) × AreOpen n j front → Comes front k r None
    → record { are_open : (n : ℕ) × AreOpen n j k; no_reason : k.follower.pairer.reason ≡ None; in_order : ForSome k.follower.pairer.last_time (λ time. time ≤ k.rows.last_time) }
waits_more {front = front} {r = r} o one =
    let w = one.took in record {
      are_open = (suc o.0, (front, o.1, r, one));
      no_reason = w.takes.reason;
      in_order = λ x e. later one.gives w.takes x e;
    }

-- so far the rows that were given are no fewer
pub none_lost : {R : Type 0} {j k : Feed R} {r : Result Turn JudgeError} (c : ComesTo j r k) → j.rows.given ≤ c.front.rows.given
none_lost {j = j} c = opened (λ k. j.rows.given ≤ k.rows.given) (λ i k r low one. omega (arith, one.gives)) c.are_open.0 c.front (omega arith) c.are_open.1

-- ---- records that were passed over

-- and then came the first that is judged, the end of the rows, or a refusal
pub resumed : {R : Type 0} {terms : Terms} {last : Option LineByte} {old new : Progress R} {came : Result (Option LineByte) JudgeError} {result : Result Turn JudgeError} {k : Feed R}
    (over : PassesOver old last came new)
    → ((first : LineByte) × (may_begin (last_of last over.passed) first ≡ true) × Resumes terms over.mid first result k)
    ⊎ ((result ≡ Ok Turn.End) × GivesEnd over.mid k.rows × KnowsNothing terms k.follower)
    ⊎ ((e : CaptureError) × GivesRefusal over.mid e k.rows × (result ≡ Err (refusal_of e)) × KnowsNothing terms k.follower) → ResumesAfter terms last old result k
resumed over then = record { passed = over.passed; none_begins = over.none_begins; mid = over.mid; gives = over.gives; then = then }

-- ---- what a record comes to

-- the exchange is the one that the pairer shows
pub same_exchange : {o : Option Exchange} {e f : Exchange} → o ≡ Some f → o ≡ Some e → f ≡ e
same_exchange one other = cc

-- what the pairer answered of a record
pub answering_late : (o : Outcome) → Step.LateReply ≡ step_of o → o ≡ Outcome.answers_late
answering_late o is = grind arith

pub completing : (o : Outcome) → Step.Exchange ≡ step_of o → (e : Exchange) × (o ≡ Outcome.completes e)
completing o is = grind arith

-- what the tracker makes of an exchange that a record made whole
pub took-observed : (f g : Follower) {paired : Paired} {r : LineByte} {e : Exchange} (result : Result (Option Turn) AllocError)
    → Takes f.pairer r (Outcome.completes e) paired → g.pairer ≡ paired → IsObserved f.tracker e r result g.tracker → Took f r result g
took-observed f g {e = e} (Ok (Some Turn.Exchange)) takes same o = record { exchange = e; takes = rw same takes; observes = o }
took-observed f g {e = e} (Ok (Some (Turn.Break b))) takes same o =
    (o.0, inr (o.1, record { exchange = e; takes = rw (same, o.0) takes; observes = o.2 }, o.3))
took-observed f g (Err x) takes same o = tt
took-observed f g result takes same o = absurd o

-- a row whose record came to this turn
pub turned_by : {R : Type 0} (j k : Feed R) (r : LineByte) (turn : Turn) → Comes j k r (Some turn) → Turned j (Ok turn) k
turned_by j k r Turn.End c = absurd c.took
turned_by j k r turn c = (r, c)
