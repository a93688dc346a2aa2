-- How the judging of a capture goes on, from one event to the next.
use Rattle.std.specs.Prelude.{◌≡◌, ◌≢◌, ◌⊎◌, ℕ, List, [], ◌∷◌, ◌++◌, length, Option, Some, None, ⊤}
use Rattle.capture9.specs.declared.error.CaptureError.{CaptureError}
use Rattle.capture9.specs.declared.line_byte.LineByte.{LineByte}
use Rattle.capture9.specs.declared.records.Standing.TheVariants.{Reading}
use Rattle.capture9.specs.Records.{GivesEnd, GivesRefusal, Progress}
use Rattle.capture9.specs.RowRules.{last_time as time_after}
use Rattle.capture9.specs.Rows.{Rows}
use Rattle.capture9.specs.SomeText.{CanBeRows}
use Rattle.block9.specs.declared.exchange.Exchange.{Exchange}
use Rattle.block9.specs.declared.reason.Reason.TheVariants.{NoRun}
use Rattle.block9.specs.Exchange.{BeginsLate, IsExchange}
use Rattle.block9.specs.Line.{last_time}
use Rattle.block9.specs.Pairer.{Paired}
use Rattle.track9.specs.Following.{KeepsEnds}
use Rattle.why9.specs.Contradiction.{BreaksAtLast}
use Rattle.report9.specs.declared.error.JudgeError.{JudgeError}
use Rattle.report9.specs.declared.verdict.Beginning.{Beginning}
use Rattle.report9.specs.Error.{refusal_of}
use Rattle.judge9.specs.declared.event.Break.{Break}
use Rattle.judge9.specs.declared.event.Event.{Event}
use Rattle.judge9.specs.declared.event.Event.TheVariants as event
use Rattle.judge9.specs.declared.feed.Feed.{Feed}
use Rattle.judge9.specs.History.{History, IsHistory, told_in}
use Rattle.judge9.specs.Parts.{BrokenPart, number_of}
use Rattle.judge9.specs.Parts.Event.{exchange, late_reply}
use Rattle.judge9.specs.Verdict.{Terms, line_rules}

-- ---- what was read

-- these records were read of the rows, where they are known, and the rest is still to come
abbrev pub WereRead : Option Rows → List LineByte → Option Rows → Type 0
WereRead None items left = ⊤
WereRead (Some rows) items left = (rest : Rows) × (left ≡ Some rest) × (rows ≡ record { records = items ++ rest.records; fault = rest.fault })

-- they are all that a reading has given so far, of a text that may have at most `limit` rows
pub record AreRead {R : Type 0} (limit : ℕ) (rows : Option Rows) (items : List LineByte) (progress : Progress R) : Type 0 where
  pub is_reading : progress.standing ≡ Reading
  pub read : WereRead rows items progress.rows
  pub same_limit : progress.most_rows ≡ limit
  pub can_be : CanBeRows limit (record { records = items; fault = None })
  pub given : progress.given ≡ length items
  pub last_time : progress.last_time ≡ time_after 0 items

-- some reading gave them
pub record WereGiven (limit : ℕ) (rows : Option Rows) (items : List LineByte) : Type 0 where
  pub left : Option Rows
  pub read : WereRead rows items left
  pub can_be : CanBeRows limit (record { records = items; fault = None })

-- a history of what was read
pub record Reached (limit : ℕ) (terms : Terms) (beginning : Beginning) (rows : Option Rows) (h : History) : Type 0 where
  pub is_history : IsHistory terms beginning h
  pub were_given : WereGiven limit rows h.items

-- ---- what is told next

-- more records were read since, of which nothing is told
pub record IsSilent (h next : History) : Type 0 where
  pub broken : next.broken ≡ h.broken
  pub told : told_in next ≡ told_in h
  pub exchanges : next.part.exchanges ≡ h.part.exchanges
  -- where no record is open, there are none behind the last exchange
  pub still : next.part.tail ≡ [] → (next.part.exchanges ≡ []) ⊎ ((next.part.records ≡ h.part.records) × (h.part.tail ≡ []))

-- the exchange that a judging shows was told
pub record TellsExchange {R : Type 0} (terms : Terms) (h next : History) (j : Feed R) : Type 0 where
  pub e : Exchange
  pub shown : j.follower.pairer.exchange ≡ Some e
  pub broken : next.broken ≡ h.broken
  pub told : told_in next ≡ told_in h ++ exchange j.rows.given h.part.exchanges e ∷ []
  pub exchanges : next.part.exchanges ≡ h.part.exchanges ++ e ∷ []
  pub knows : KeepsEnds terms.profile (h.part.exchanges ++ e ∷ []) j.follower.tracker
  pub ended : j.follower.pairer.last_time ≡ Some (last_time next.part.records)

-- a late reply was told that begins with this record, which was read last: the pairer has it open, or refused it
pub record TellsLate {R : Type 0} (terms : Terms) (h next : History) (r : LineByte) (j : Feed R) : Type 0 where
  pub asked : List LineByte
  pub late : BeginsLate (line_rules terms) asked r
  pub rules : j.follower.pairer.rules ≡ line_rules terms
  pub open_records : (j.follower.pairer.tail ≡ asked) ⊎ (j.follower.pairer.tail ≡ asked ++ r ∷ [])
  pub broken : next.broken ≡ h.broken
  pub told : told_in next ≡ told_in h ++ late_reply j.rows.given asked r ∷ []
  pub exchanges : next.part.exchanges ≡ h.part.exchanges
  pub still : next.part.tail ≡ [] → (next.part.exchanges ≡ []) ⊎ ((next.part.records ≡ h.part.records) × (h.part.tail ≡ []))

-- what a judging shows of a part that breaks: the records that were open before the one that breaks a rule; or the exchange that it
-- ends, with which no run remains
abbrev pub ShowsBreak : Terms → BrokenPart → Paired → Type 0
ShowsBreak terms b paired =
    ((b.reason ≢ NoRun) × (paired.rules ≡ line_rules terms) × (paired.tail ≡ b.part.tail))
    ⊎ ((b.reason ≡ NoRun) × (e : Exchange) × (paired.exchange ≡ Some e) × IsExchange (line_rules terms) (b.part.tail ++ b.breaking ∷ []) e
    × BreaksAtLast terms.profile (b.part.exchanges ++ e ∷ []))

-- the part broke, and nothing is told since
pub record TellsBreak {R : Type 0} (terms : Terms) (h next : History) (b : Break) (j : Feed R) : Type 0 where
  pub part : BrokenPart
  pub broken : next.broken ≡ h.broken ++ part ∷ []
  pub exchanges : part.part.exchanges ≡ h.part.exchanges
  pub events : part.events ≡ told_in h
  pub still : part.part.tail ≡ [] → (part.part.exchanges ≡ []) ⊎ ((part.part.records ≡ h.part.records) × (h.part.tail ≡ []))
  pub breaking : part.breaking ≡ b.record
  pub reason : part.reason ≡ b.reason
  pub number : number_of part ≡ j.rows.given
  pub shows : ShowsBreak terms part j.follower.pairer
  pub told : told_in next ≡ []
  pub none_judged : (next.part.records ≡ []) × (next.part.exchanges ≡ [])
  pub read : length next.items ≡ j.rows.given

abbrev pub Tells : {R : Type 0} → Terms → History → Event → History → Feed R → Type 0
Tells terms h event.Exchange next j = TellsExchange terms h next j
Tells terms h (event.LateReply r) next j = TellsLate terms h next r j
Tells terms h (event.Break b) next j = TellsBreak terms h next b j
Tells terms h event.End next j = ⊥

-- ---- the end

-- all rows were read, and all records were judged or passed over
pub record ComesToEnd {R : Type 0} (limit : ℕ) (terms : Terms) (beginning : Beginning) (rows : Option Rows) (h : History) (j : Feed R) : Type 0 where
  pub is_history : IsHistory terms beginning h
  pub all_judged : h.part.records ≡ is_history.left.records
  pub none_besides : h.besides ≡ []
  pub before : Progress R
  pub are_read : AreRead limit rows h.items before
  pub ends : GivesEnd before j.rows
  pub open_records : j.follower.pairer.tail ≡ h.part.tail
  pub knows : KeepsEnds terms.profile h.part.exchanges j.follower.tracker

-- the capture is refused behind these records, all of which were judged or passed over
pub record IsRefused {R : Type 0} (limit : ℕ) (terms : Terms) (beginning : Beginning) (rows : Option Rows) (h : History) (x : JudgeError) (j : Feed R) : Type 0 where
  pub is_history : IsHistory terms beginning h
  pub all_judged : h.part.records ≡ is_history.left.records
  pub none_besides : h.besides ≡ []
  pub before : Progress R
  pub are_read : AreRead limit rows h.items before
  pub e : CaptureError
  pub refusal : GivesRefusal before e j.rows
  pub is_error : x ≡ refusal_of e
