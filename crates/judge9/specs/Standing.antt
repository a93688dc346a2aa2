-- Where a judging stands between two events, and what the next one is.
use Rattle.std.specs.Prelude.{◌≡◌, ◌⊎◌, ◌↔◌, ◌+◌, ◌*◌, ◌-◌, ◌≤◌, ℕ, Bool, false, true, if◌then◌else◌, IsTrue, List, [], ◌∷◌, ◌++◌, length, Option, Some, None, Result, Ok, Err, ⊤}
use Rattle.std.specs.Option.{ForSome}
use Rattle.capture9.specs.declared.line_byte.LineByte.{LineByte}
use Rattle.capture9.specs.Fields.{greatest_limit}
use Rattle.capture9.specs.declared.records.Standing.TheVariants.{Reading}
use Rattle.capture9.specs.Records.{GivesRecord, Progress}
use Rattle.capture9.specs.Rows.{Rows}
use Rattle.block9.specs.declared.exchange.Exchange.{Exchange}
use Rattle.block9.specs.Exchange.{BeginsLate, Outcome, TellsLate, records_in}
use Rattle.block9.specs.Pairer.{Refuses, Takes}
use Rattle.block9.specs.declared.line_rules.ReplyLimit.TheVariants.{LeftAside}
use Rattle.block9.specs.declared.reason.Reason.TheVariants.{NoRun}
use Rattle.block9.specs.NextPart.{takes_up_at}
use Rattle.deck9.specs.declared.profile.Profile.{Profile}
use Rattle.deck9.specs.declared.state.State.{State}
use Rattle.deck9.specs.Going.{goes_on, on_at_first}
use Rattle.deck9.specs.State.{IsFirst}
use Rattle.deck9.specs.Step.{AreReached, Goes}
use Rattle.track9.specs.Following.{KeepsEnds}
use Rattle.track9.specs.Tracker.{Possible, Tracked}
use Rattle.report9.specs.declared.totals.Totals.{Totals}
use Rattle.report9.specs.declared.error.JudgeError.{JudgeError}
use Rattle.report9.specs.declared.error.JudgeError.TheVariants.{OutOfMemory}
use Rattle.report9.specs.declared.verdict.Beginning.{Beginning}
use Rattle.report9.specs.declared.verdict.Extent.TheVariants.{FirstBreak}
use Rattle.report9.specs.declared.verdict.Scope.{Scope}
use Rattle.report9.specs.declared.verdict.Verdict.{Verdict}
use Rattle.report9.specs.declared.verdict.Verdict.TheVariants.{No, Yes}
use Rattle.judge9.specs.declared.counts.Counts.{Counts}
use Rattle.judge9.specs.declared.event.Break.{Break}
use Rattle.judge9.specs.declared.event.Event.{Event}
use Rattle.judge9.specs.declared.event.Event.TheVariants as event
use Rattle.judge9.specs.declared.feed.Feed.{Feed}
use Rattle.judge9.specs.declared.follower.Follower.{Follower}
use Rattle.judge9.specs.declared.judging.Judging.{Judging}
use Rattle.judge9.specs.declared.stage.Stage.{Stage}
use Rattle.judge9.specs.declared.stage.Stage.TheVariants as stage
use Rattle.judge9.specs.Beginning.{Rest, judged_from, rest_after}
use Rattle.judge9.specs.Events.{AreRead, ComesToEnd, IsRefused, IsSilent, Reached, Tells}
use Rattle.judge9.specs.History.{History, no_part, nothing_told, told_in}
use Rattle.judge9.specs.Parts.{AreParts, BrokenPart, IsPart, Part, events_of, exchanges_of, late_replies, number_of}
use Rattle.judge9.specs.Parts.Event.{late_reply}
use Rattle.judge9.specs.Verdict.{Terms, line_rules, rows_allowed, terms_for}

-- ---- what follows the records

-- nothing is open, and nothing is known of the deck
pub record KnowsNothing (terms : Terms) (f : Follower) : Type 0 where
  pub fed_nothing : f.pairer ≡ record { tail = []; last_time = None; reason = None; exchange = None; rules = line_rules terms }
  pub states : (s : State) → Possible f.tracker.states s ↔ IsFirst terms.profile s
  pub profile : f.tracker.profile ≡ terms.profile
  pub going : f.tracker.going ≡ on_at_first terms.profile.deck

-- nothing was judged yet
pub record IsFresh {R : Type 0} (limit : ℕ) (terms : Terms) (j : Feed R) : Type 0 where
  pub limited : j.rows.most_rows ≡ limit
  pub none_given : j.rows.given ≡ 0
  pub no_time : j.rows.last_time ≡ 0
  pub is_reading : j.rows.standing ≡ Reading
  pub knows_nothing : KnowsNothing terms j.follower

-- an exchange was observed, and this is whether a state remains
pub record Observes (old new : Tracked) (e : Exchange) (b : Bool) : Type 0 where
  pub reached : AreReached (Possible old.states) (Goes old.profile old.going e) (Possible new.states)
  pub profile : new.profile ≡ old.profile
  pub going : new.going ≡ goes_on old.profile true e old.going
  pub remains : IsTrue b ↔ ((s : State) × Possible new.states s)

-- one that ends an exchange, and whether a state of the deck remains with it
pub record Completes (f g : Follower) (r : LineByte) (b : Bool) : Type 0 where
  pub exchange : Exchange
  pub takes : Takes f.pairer r (Outcome.completes exchange) g.pairer
  pub observes : Observes f.tracker g.tracker exchange b

-- one that breaks this rule, and may begin a late reply besides: one of blocks, pairing and timing, or no state of the deck remains with
-- its exchange
abbrev pub Spoils : Follower → Follower → Break → Type 0
Spoils f g b =
    (Refuses f.pairer b.record b.reason g.pairer × (g.tracker ≡ f.tracker) × TellsLate f.pairer.rules f.pairer.tail b.record b.late)
    ⊎ ((b.reason ≡ NoRun) × Completes f g b.record false × (b.late ≡ false))

-- ---- what a judging needs to go on, whatever it judges

abbrev pub CanGoOn : {R : Type 0} → Stage → Feed R → Type 0
CanGoOn stage.Fresh j = (limit : ℕ) × (terms : Terms) × IsFresh limit terms j
CanGoOn stage.Going j = (j.follower.pairer.reason ≡ None) × ForSome j.follower.pairer.last_time (λ time. time ≤ j.rows.last_time)
CanGoOn {R} (stage.LateTold b) j = (before : Progress R) × GivesRecord before b.record j.rows
CanGoOn {R} (stage.Broken b) j = (before : Progress R) × GivesRecord before b.record j.rows
CanGoOn stage.Ended j = ⊤

-- it shows an exchange, with which a state of the deck remains
abbrev pub ShowsExchange : {R : Type 0} → Feed R → Type 0
ShowsExchange j = ((e : Exchange) × (j.follower.pairer.exchange ≡ Some e)) × ((s : State) × Possible j.follower.tracker.states s)

-- what is left to do: rows that are still to come, and a record that broke a part may begin the next and break that too
abbrev pub weight : Stage → ℕ
weight stage.Fresh = 1
weight stage.Going = 1
weight (stage.LateTold b) = 4
weight (stage.Broken b) = if takes_up_at b.reason then 3 else 2
weight stage.Ended = 0

abbrev pub left_of : {R : Type 0} → Judging R → ℕ
left_of j = 4 * (greatest_limit - j.feed.rows.given) + weight j.stage

-- ---- where it stands

-- the records so far of a part, behind these of the capture, keep the rules: the pairer has their tail, and the tracker keeps the
-- states that the runs of their exchanges end in
pub record InPart {R : Type 0} (limit : ℕ) (terms : Terms) (rows : Option Rows) (past : List LineByte) (part : Part) (j : Feed R) : Type 0 where
  pub is_part : IsPart terms part
  pub number : part.past ≡ length past
  pub open_records : j.follower.pairer.tail ≡ part.tail
  pub follows : KeepsEnds terms.profile part.exchanges j.follower.tracker
  pub no_reason : j.follower.pairer.reason ≡ None
  pub same_rules : j.follower.pairer.rules ≡ line_rules terms
  pub in_order : ForSome j.follower.pairer.last_time (λ time. time ≤ j.rows.last_time)
  pub are_read : AreRead limit rows (past ++ part.records) j.rows

-- whatever the parts of the records from here on are, these come before them
abbrev pub GoesOn : Terms → Beginning → List BrokenPart → List LineByte → List LineByte → Type 0
GoesOn terms beginning broken past records =
    (others : List BrokenPart) (left : Rest) → AreParts terms (record { past = length past; records = records }) others left
    → AreParts terms (judged_from beginning (past ++ records)) (broken ++ others) left

-- the exchanges of these parts are among so many records
pub record Fits (broken : List BrokenPart) (past : List LineByte) : Type 0 where
  pub exchanges : length (exchanges_of broken) ≤ length past
  pub records : records_in (exchanges_of broken) ≤ length past

-- a part goes on
pub record IsWithin {R : Type 0} (limit : ℕ) (terms : Terms) (beginning : Beginning) (rows : Option Rows) (h : History) (j : Feed R) : Type 0 where
  pub past : List LineByte
  pub in_part : InPart limit terms rows past h.part j
  pub items : h.items ≡ past ++ h.part.records
  pub none_besides : h.besides ≡ []
  pub on : (more : List LineByte) → GoesOn terms beginning h.broken past (h.part.records ++ more)
  pub fits : Fits h.broken past

-- a record was read that breaks the part, and the late reply was told that it begins besides
pub record IsAtBreak {R : Type 0} (limit : ℕ) (terms : Terms) (beginning : Beginning) (rows : Option Rows) (h : History) (b : Break) (j : Feed R) : Type 0 where
  pub past : List LineByte
  pub before : Feed R
  pub in_part : InPart limit terms rows past h.part before
  pub gives : GivesRecord before.rows b.record j.rows
  pub spoils : Spoils before.follower j.follower b
  pub items : h.items ≡ past ++ (h.part.records ++ b.record ∷ [])
  pub left_aside : terms.reply_limit ≡ LeftAside
  pub late : BeginsLate (line_rules terms) h.part.tail b.record
  pub besides : h.besides ≡ late_reply (h.part.past + length h.part.records + 1) h.part.tail b.record ∷ []
  pub on : (more : List LineByte) → GoesOn terms beginning h.broken past (h.part.records ++ b.record ∷ more)
  pub fits : Fits h.broken past

-- a part broke at the record that was read last, behind these
pub record IsBehind {R : Type 0} (limit : ℕ) (terms : Terms) (beginning : Beginning) (rows : Option Rows) (h : History) (b : Break) (j : Feed R) : Type 0 where
  pub past : List LineByte
  pub before : Progress R
  pub are_read : AreRead limit rows past before
  pub gives : GivesRecord before b.record j.rows
  pub items : h.items ≡ past ++ b.record ∷ []
  pub last : (front : List BrokenPart) × (part : BrokenPart) × (h.broken ≡ front ++ part ∷ []) × (part.reason ≡ b.reason) × (number_of part ≡ j.rows.given)
  pub none_told : h.part ≡ no_part (rest_after (length past) b.reason b.record []).past
  pub none_besides : h.besides ≡ []
  pub on : (after : List LineByte) (others : List BrokenPart) (left : Rest) → AreParts terms (rest_after (length past) b.reason b.record after) others left
      → AreParts terms (judged_from beginning (past ++ b.record ∷ after)) (h.broken ++ others) left
  pub fits : Fits h.broken past

abbrev pub StandsAt : {R : Type 0} → ℕ → Terms → Beginning → Option Rows → History → Stage → Feed R → Type 0
StandsAt limit terms beginning rows h stage.Fresh j = IsFresh limit terms j × (j.rows.rows ≡ rows) × (h ≡ nothing_told)
StandsAt limit terms beginning rows h stage.Going j = IsWithin limit terms beginning rows h j
StandsAt limit terms beginning rows h (stage.LateTold b) j = IsAtBreak limit terms beginning rows h b j
StandsAt limit terms beginning rows h (stage.Broken b) j = IsBehind limit terms beginning rows h b j
StandsAt limit terms beginning rows h stage.Ended j = ⊥

-- what was counted of it
pub record AreCounted (h : History) (counts : Counts) : Type 0 where
  pub breaks : counts.breaks ≡ length h.broken + late_replies (events_of h.broken) + late_replies (told_in h)
  pub exchanges : counts.exchanges ≡ length (exchanges_of h.broken ++ h.part.exchanges)
  pub records : counts.records ≡ records_in (exchanges_of h.broken ++ h.part.exchanges)

-- what was counted so far
abbrev pub totals_of : {R : Type 0} → Judging R → Totals
totals_of j = record {
  breaks = j.counts.breaks;
  records = j.feed.rows.given;
  exchanges = j.counts.exchanges;
  passed_over = (j.feed.rows.given - j.counts.records) - length j.feed.follower.pairer.tail;
  tail = length j.feed.follower.pairer.tail;
}

-- the verdict of a judging that has ended, by what it counted and where it stands
abbrev pub verdict_at : Totals → Stage → Verdict
verdict_at t (stage.Broken b) = No t.records b.reason
verdict_at t _ = Yes (t.records - t.passed_over) t.exchanges t.tail

abbrev pub verdict_of : {R : Type 0} → Judging R → Verdict
verdict_of j = verdict_at (totals_of j) j.stage

-- a judging of this scope, of a deck that is taken for this, stands behind this history of these rows
pub record Stands {R : Type 0} (scope : Scope) (profile : Profile) (rows : Option Rows) (h : History) (j : Judging R) : Type 0 where
  pub same_scope : j.scope ≡ scope
  pub same_profile : j.profile.now ≡ profile
  pub at : StandsAt (rows_allowed scope.extent) (terms_for scope.extent profile) scope.beginning rows h j.stage j.feed
  pub counted : AreCounted h j.counts
  pub bound : j.counts.breaks + left_of j ≤ 4 * greatest_limit + 1

-- ---- the next event

-- with the records that were read for it, of which nothing is told (`front`), the event is told, and the judging stands behind it
pub record Advances {R : Type 0} (scope : Scope) (profile : Profile) (rows : Option Rows) (h : History) (e : Event) (j : Judging R) : Type 0 where
  pub front : History
  pub silent : IsSilent h front
  pub reached : Reached (rows_allowed scope.extent) (terms_for scope.extent profile) scope.beginning rows front
  pub next : History
  pub tells : Tells (terms_for scope.extent profile) front e next j.feed
  pub now_reached : Reached (rows_allowed scope.extent) (terms_for scope.extent profile) scope.beginning rows next
  pub stands : Stands scope profile rows next j

-- nothing more is told: the rows came to their end, or a judging up to the first break had told one
abbrev pub Stops : {R : Type 0} → Scope → Profile → Option Rows → History → Judging R → Type 0
Stops scope profile rows h j =
    ((front : History) × IsSilent h front × ComesToEnd (rows_allowed scope.extent) (terms_for scope.extent profile) scope.beginning rows front j.feed
    × AreCounted front j.counts × (j.stage ≡ stage.Ended))
    ⊎ ((scope.extent ≡ FirstBreak) × (b : Break) × (j.stage ≡ stage.Broken b) × Stands scope profile rows h j)

abbrev pub Next : {R : Type 0} → Scope → Profile → Option Rows → History → Result Event JudgeError → Judging R → Type 0
Next scope profile rows h (Ok event.End) j = Stops scope profile rows h j
Next scope profile rows h (Ok e) j = Advances scope profile rows h e j
Next scope profile rows h (Err x) j =
    (x ≡ OutOfMemory)
    ⊎ ((front : History) × IsSilent h front × IsRefused (rows_allowed scope.extent) (terms_for scope.extent profile) scope.beginning rows front x j.feed)
