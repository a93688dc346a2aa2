-- The same capture where its records come at other times, but those that follow one another on one wire as far apart as they did; and
-- what is the same in it: its parts, and what is told of them but late replies.
use Rattle.std.specs.Prelude.{◌≡◌, ◌≤◌, ◌+◌, ◌↔◌, List, [], ◌∷◌, length, map}
use Rattle.capture9.specs.declared.line_byte.LineByte.{LineByte}
use Rattle.capture9.specs.declared.line_byte.Wire.TheVariants.{Controller, Deck}
use Rattle.block9.specs.declared.exchange.Exchange.{Exchange}
use Rattle.block9.specs.Line.{reply_limit}
use Rattle.judge9.specs.Parts.{BrokenPart, Event, Part}
use Rattle.judge9.specs.Parts.Event.{exchange, late_reply}

-- a record on the wire of the one before it comes as long after it as it did, and one on the other wire at any time, but before it exactly
-- where it did
abbrev pub KeepsPace : LineByte → List LineByte → LineByte → List LineByte → Type 0
KeepsPace last (r ∷ records) before (s ∷ others) =
    (last.wire ≡ r.wire → r.time_us + before.time_us ≡ s.time_us + last.time_us) × (last.time_us ≤ r.time_us ↔ before.time_us ≤ s.time_us)
KeepsPace last _ before _ = Unit {0}

-- the same bytes on the same wires, at other times
abbrev pub AreRetimed : List LineByte → List LineByte → Type 0
AreRetimed [] [] = Unit {0}
AreRetimed (r ∷ records) (s ∷ others) = (r.wire ≡ s.wire) × (r.byte ≡ s.byte) × KeepsPace r records s others × AreRetimed records others
AreRetimed _ _ = ⊥

-- none on the deck's wire comes later than the reply limit after one on the controller's
abbrev pub NoneIsLate : List LineByte → Type 0
NoneIsLate (last ∷ r ∷ records) = (last.wire ≡ Controller → r.wire ≡ Deck → r.time_us ≤ last.time_us + reply_limit) × NoneIsLate (r ∷ records)
NoneIsLate _ = Unit {0}

-- ---- what is the same

-- the command and its reply, whenever they came
abbrev pub untimed : Exchange → Exchange
untimed e = record e { time_us = 0; delay_us = 0 }

-- what is told but late replies
abbrev pub told_untimed : List Event → List Event
told_untimed [] = []
told_untimed (late_reply at asked r ∷ events) = told_untimed events
told_untimed (exchange at es e ∷ events) = exchange at (map untimed es) (untimed e) ∷ told_untimed events

-- a part, and what it is at other times
pub record IsSamePart (part other : Part) : Type 0 where
  pub past : part.past ≡ other.past
  pub records : length part.records ≡ length other.records
  pub exchanges : map untimed part.exchanges ≡ map untimed other.exchanges
  pub tail : length part.tail ≡ length other.tail
  pub events : told_untimed part.events ≡ told_untimed other.events

-- parts that break, each at the record of the same number and for the same reason
abbrev pub AreSameParts : List BrokenPart → List BrokenPart → Type 0
AreSameParts [] others = others ≡ []
AreSameParts (b ∷ broken) others =
    (c : BrokenPart) × (more : List BrokenPart) × (others ≡ c ∷ more) × IsSamePart b.part c.part × (b.reason ≡ c.reason) × AreSameParts broken more
