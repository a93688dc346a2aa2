-- What a judging comes to next: what rows do to those that are still to come, and their records to what follows them.
use Rattle.std.specs.Prelude.{◌≡◌, ◌⊎◌}
use Rattle.std.specs.declared.alloc.AllocError.{AllocError}
use Rattle.judge9.specs.Standing.{Completes, Observes, Spoils}
use Rattle.judge9.specs.Working.{CaptureError, Err, Exchange, false, Follower, GivesEnd, GivesRecord, GivesRefusal, JudgeError}
use Rattle.judge9.specs.Working.{Feed, LineByte, None, Ok, Option, Reason, refusal_of, Result, Some, Outcome, suc, Takes, Tracked, true, Turn, zero, ℕ, ⊤}

-- ---- a record

-- a record with which nothing is told
abbrev pub IsOpen : Outcome → Type 0
IsOpen Outcome.leaves_open = ⊤
IsOpen Outcome.answers_late = ⊥
IsOpen Outcome.asks = ⊤
IsOpen (Outcome.completes e) = ⊥

-- what the tracker makes of an exchange that ends with this record
abbrev pub IsObserved : Tracked → Exchange → LineByte → Result (Option Turn) AllocError → Tracked → Type 0
IsObserved old e last (Ok (Some Turn.Exchange)) new = Observes old new e true
IsObserved old e last (Ok (Some (Turn.Break b))) new = (b.record ≡ last) × (b.reason ≡ Reason.NoRun) × Observes old new e false × (b.late ≡ false)
IsObserved old e last (Err x) new = ⊤
IsObserved old e last _ new = ⊥

-- a record with which a late reply begins
pub record BeginsReplyLate (f g : Follower) (r : LineByte) : Type 0 where
  pub takes : Takes f.pairer r Outcome.answers_late g.pairer
  pub same_tracker : g.tracker ≡ f.tracker

-- a record with which nothing is told
pub record Waits (f g : Follower) (r : LineByte) : Type 0 where
  pub outcome : Outcome
  pub takes : Takes f.pairer r outcome g.pairer
  pub is_open : IsOpen outcome
  pub same_tracker : g.tracker ≡ f.tracker

-- what a record comes to that was taken
abbrev pub Took : Follower → LineByte → Result (Option Turn) AllocError → Follower → Type 0
Took f r (Ok None) g = Waits f g r
Took f r (Ok (Some (Turn.LateReply first))) g = (first ≡ r) × BeginsReplyLate f g r
Took f r (Ok (Some Turn.Exchange)) g = Completes f g r true
Took f r (Ok (Some (Turn.Break b))) g = (b.record ≡ r) × Spoils f g b
Took f r (Ok (Some Turn.End)) g = ⊥
Took f r (Err x) g = ⊤

-- ---- rows

-- a row was read, and its record came to this turn, or to none
pub record Comes {R : Type 0} (j k : Feed R) (r : LineByte) (turn : Option Turn) : Type 0 where
  pub gives : GivesRecord j.rows r k.rows
  pub took : Took j.follower r (Ok turn) k.follower

-- there was no row
pub record EndsRows {R : Type 0} (j k : Feed R) : Type 0 where
  pub ends : GivesEnd j.rows k.rows
  pub same_follower : k.follower ≡ j.follower

-- this many rows were read, whose records come to nothing yet
abbrev pub AreOpen : {R : Type 0} → ℕ → Feed R → Feed R → Type 0
AreOpen zero j k = k ≡ j
AreOpen {R} (suc n) j k = (mid : Feed R) × AreOpen n j mid × (r : LineByte) × Comes mid k r None

-- what the next row does
abbrev pub Turned : {R : Type 0} → Feed R → Result Turn JudgeError → Feed R → Type 0
Turned j (Ok Turn.End) k = EndsRows j k
Turned j (Ok turn) k = (r : LineByte) × Comes j k r (Some turn)
Turned j (Err x) k = (x ≡ JudgeError.OutOfMemory) ⊎ ((e : CaptureError) × GivesRefusal j.rows e k.rows × (x ≡ refusal_of e))

-- rows were read whose records come to nothing yet, and then came this
pub record ComesTo {R : Type 0} (j : Feed R) (result : Result Turn JudgeError) (k : Feed R) : Type 0 where
  pub front : Feed R
  pub are_open : (n : ℕ) × AreOpen n j front
  pub turned : Turned front result k
