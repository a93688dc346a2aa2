-- The parts that a capture is judged in where the judging goes on after each break. Each part is judged as a capture by itself:
-- nothing is known of the deck where it begins. A late reply is told where it begins, and ends no part. Records keep the numbers
-- that they have in the whole capture.
use Rattle.std.specs.Prelude.{◌≡◌, ℕ, ◌+◌, List, [], ◌∷◌, ◌++◌, length}
use Rattle.capture9.specs.declared.line_byte.LineByte.{LineByte}
use Rattle.block9.specs.declared.exchange.Exchange.{Exchange}
use Rattle.block9.specs.declared.line_rules.ReplyLimit.TheVariants.{LeftAside}
use Rattle.block9.specs.declared.reason.Reason.{Reason}
use Rattle.block9.specs.Exchange.{BeginsLate, Cut, records_in}
use Rattle.deck9.specs.declared.profile.Profile.{Profile}
use Rattle.deck9.specs.Run.{HasRun}
use Rattle.report9.specs.declared.totals.Totals.{Totals}
use Rattle.judge9.specs.Beginning.{Rest, rest_after}
use Rattle.judge9.specs.Verdict.{Breaks, Terms, line_rules, terms_of}

-- ---- the parts

-- what the parts of a whole capture are judged by: a late reply breaks a rule, which is told, and ends no part
abbrev pub in_parts : Profile → Terms
in_parts profile = terms_of LeftAside profile

-- what is told of a part where it stands: a reply that begins late with the record of this number, after these records of its
-- command; or an exchange that ends with the record of this number, after these exchanges of the part
pub data Event : Type 0 where
  late_reply : ℕ → List LineByte → LineByte → Event
  exchange : ℕ → List Exchange → Exchange → Event

-- how many late replies are among them
abbrev pub late_replies : List Event → ℕ
late_replies [] = 0
late_replies (late_reply at asked r ∷ events) = late_replies events + 1
late_replies (exchange at before e ∷ events) = late_replies events

-- this is told of the record behind these of a part, before which come so many of the capture: it begins late after their tail, and
-- the reply limit is left aside; or it ends an exchange, and they keep the rules with it
abbrev pub IsEvent : Terms → ℕ → List LineByte → LineByte → Event → Type 0
IsEvent terms past before r (late_reply at asked first) =
    (at ≡ past + length before + 1) × (first ≡ r) × (terms.reply_limit ≡ LeftAside) × BeginsLate (line_rules terms) asked r
    × ((es : List Exchange) × Cut (line_rules terms) before es asked)
IsEvent terms past before r (exchange at es e) =
    (at ≡ past + length before + 1) × Cut (line_rules terms) (before ++ r ∷ []) (es ++ e ∷ []) [] × HasRun terms.profile (es ++ e ∷ [])

-- all that is told of it, which is one event at most
abbrev pub AreEventsAt : Terms → ℕ → List LineByte → LineByte → List Event → Type 0
AreEventsAt terms past before r [] = (event : Event) → ¬ IsEvent terms past before r event
AreEventsAt terms past before r (event ∷ events) = IsEvent terms past before r event × (events ≡ [])

-- all that is told of the records behind these, one after another
abbrev pub AreEvents : Terms → ℕ → List LineByte → List LineByte → List Event → Type 0
AreEvents terms past before [] events = events ≡ []
AreEvents terms past before (r ∷ records) events =
    (some : List Event) × (more : List Event) × AreEventsAt terms past before r some
    × AreEvents terms past (before ++ r ∷ []) records more × (events ≡ some ++ more)

-- the first records of a part, the exchanges and the open records that they are cut into, and what is told of them; so many
-- records of the capture come before them
pub record Part : Type 0 where
  pub past : ℕ
  pub records : List LineByte
  pub exchanges : List Exchange
  pub tail : List LineByte
  pub events : List Event

-- they keep the rules
pub record IsPart (terms : Terms) (part : Part) : Type 0 where
  pub cut : Cut (line_rules terms) part.records part.exchanges part.tail
  pub run : HasRun terms.profile part.exchanges
  pub are_events : AreEvents terms part.past [] part.records part.events

-- a part that breaks: the records before the one that breaks a rule, this record, the reason, and what is told of all of them before
-- the break
pub record BrokenPart : Type 0 where
  pub part : Part
  pub breaking : LineByte
  pub reason : Reason
  pub events : List Event

-- the number of the record that breaks
abbrev pub number_of : BrokenPart → ℕ
number_of broken = broken.part.past + length broken.part.records + 1

-- from the first of these records on the parts that break, one after another, and what is left after them
abbrev pub AreParts : Terms → Rest → List BrokenPart → Rest → Type 0
AreParts terms rest [] left = left ≡ rest
AreParts terms rest (b ∷ broken) left =
    (after : List LineByte) × (rest ≡ record { past = b.part.past; records = b.part.records ++ b.breaking ∷ after }) × IsPart terms b.part
    × Breaks terms b.part.records b.breaking b.reason × AreEvents terms b.part.past [] (b.part.records ++ b.breaking ∷ []) b.events
    × AreParts terms (rest_after (b.part.past + length b.part.records) b.reason b.breaking after) broken left

-- ---- what is counted

-- the complete exchanges of these parts before their breaks
abbrev pub exchanges_of : List BrokenPart → List Exchange
exchanges_of [] = []
exchanges_of (b ∷ broken) = b.part.exchanges ++ exchanges_of broken

-- what is told of these parts before their breaks
abbrev pub events_of : List BrokenPart → List Event
events_of [] = []
events_of (b ∷ broken) = b.events ++ events_of broken

-- what is counted of a capture with so many records, over the parts that break and the last, which does not: each late reply is a
-- break, and each record that ends a part
pub record AreTotals (records : ℕ) (broken : List BrokenPart) (last : Part) (totals : Totals) : Type 0 where
  pub breaks : totals.breaks ≡ length broken + late_replies (events_of broken ++ last.events)
  pub all_records : totals.records ≡ records
  pub exchanges : totals.exchanges ≡ length (exchanges_of broken ++ last.exchanges)
  pub tail : totals.tail ≡ length last.tail
  pub passed_over : records_in (exchanges_of broken ++ last.exchanges) + totals.passed_over + totals.tail ≡ records
