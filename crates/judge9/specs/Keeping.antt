-- What is kept of a part of a capture, and what that tells of why its records break rules.
use Rattle.std.specs.Prelude.{◌≡◌, ◌++◌, ◌∷◌, [], ℕ, List, Option, Some, None}
use Rattle.capture9.specs.declared.line_byte.LineByte.{LineByte}
use Rattle.block9.specs.declared.exchange.Exchange.{Exchange}
use Rattle.block9.specs.Line.{last_time}
use Rattle.block9.specs.Exchange.{BeginsLate}
use Rattle.report9.specs.declared.why_no.WhyNo.{WhyNo}
use Rattle.judge9.specs.declared.event.Event.{Event}
use Rattle.judge9.specs.declared.event.Event.TheVariants as event
use Rattle.judge9.specs.declared.feed.Feed.{Feed}
use Rattle.judge9.specs.declared.kept.Kept.{Kept}
use Rattle.judge9.specs.History.{History}
use Rattle.judge9.specs.Parts.{BrokenPart, Part}
use Rattle.judge9.specs.Verdict.{Terms, line_rules}
use Rattle.judge9.specs.Why.{IsWhy, SaysLate}

-- the time at which these records end, if they end with one of these exchanges, and none where there is no exchange
abbrev pub IsEnd : List LineByte → List Exchange → Option ℕ → Type 0
IsEnd records [] end_us = end_us ≡ None
IsEnd records (e ∷ es) end_us = end_us ≡ Some (last_time records)

-- the time at which the exchanges of a part ended, the last one last
pub record EndedAt (part : Part) (us : Option ℕ) : Type 0 where
  pub none : part.exchanges ≡ [] → us ≡ None
  pub last : part.tail ≡ [] → IsEnd part.records part.exchanges us

-- the exchanges of the part that goes on are kept
pub record KeepsPart (h : History) (kept : Kept) : Type 0 where
  pub exchanges : kept.exchanges.items ≡ h.part.exchanges
  pub ended : EndedAt h.part kept.end_us

-- what is told of an event, where it is told why records break rules, of a judging that stands behind it: why a reply is late, or why
-- the part breaks that broke last; of an exchange nothing
abbrev pub TellsWhy : {R : Type 0} → Terms → Event → History → Feed R → Option WhyNo → Type 0
TellsWhy terms (event.LateReply r) next j told =
    (why : WhyNo) × (told ≡ Some why) × (asked : List LineByte) × BeginsLate (line_rules terms) asked r × SaysLate (line_rules terms) j.rows.given asked r why
TellsWhy terms (event.Break b) next j told =
    (why : WhyNo) × (told ≡ Some why) × (earlier : List BrokenPart) × (part : BrokenPart) × (next.broken ≡ earlier ++ part ∷ []) × IsWhy terms part why
TellsWhy terms _ next j told = told ≡ None
