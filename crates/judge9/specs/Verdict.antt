-- When the records of a capture keep the rules, and which record is the first that breaks one.
use Rattle.std.specs.Prelude.{◌≡◌, ℕ, ◌+◌, ◌*◌, ◌≤◌, None, List, [], ◌∷◌, ◌++◌, length}
use Rattle.capture9.specs.declared.line_byte.LineByte.{LineByte}
use Rattle.capture9.specs.Fields.{greatest_limit, most_rows}
use Rattle.block9.specs.declared.exchange.Exchange.{Exchange}
use Rattle.block9.specs.declared.line_rules.LineRules.{LineRules}
use Rattle.block9.specs.declared.line_rules.ReplyLimit.{ReplyLimit}
use Rattle.block9.specs.declared.line_rules.ReplyLimit.TheVariants.{Counts, LeftAside}
use Rattle.block9.specs.declared.reason.Reason.{Reason}
use Rattle.block9.specs.declared.reason.Reason.TheVariants.{NoRun}
use Rattle.block9.specs.Exchange.{Cut, IsExchange}
use Rattle.block9.specs.Reason.{Holds, IsFirst, order}
use Rattle.deck9.specs.declared.profile.Profile.{Profile}
use Rattle.deck9.specs.declared.state.Hands.{Hands}
use Rattle.tc25.specs.declared.rate.Rate.TheVariants.{Fps25}
use Rattle.deck9.specs.Deck.{replies_of}
use Rattle.deck9.specs.Run.{HasRun}
use Rattle.report9.specs.declared.verdict.Extent.{Extent}
use Rattle.report9.specs.declared.verdict.Extent.TheVariants.{FirstBreak, WholeCapture}
use Rattle.report9.specs.declared.verdict.Verdict.{Verdict}
use Rattle.report9.specs.declared.verdict.Verdict.TheVariants.{Yes, No}

-- what a capture is judged by: whether the reply limit counts, and what the deck is taken for
pub record Terms : Type 0 where
  pub reply_limit : ReplyLimit
  pub profile : Profile

abbrev pub terms_of : ReplyLimit → Profile → Terms
terms_of reply_limit profile = record { reply_limit = reply_limit; profile = profile }

-- a deck of which nothing is known but whether hands are allowed, at 25 frames a second
abbrev pub at_25 : Hands → Profile
at_25 hands = record { rate = Fps25; hands = hands; deck = None }

-- whether the reply limit counts: up to the first break it does, and over all parts it is left aside
abbrev pub reply_limit_of : Extent → ReplyLimit
reply_limit_of FirstBreak = Counts
reply_limit_of WholeCapture = LeftAside

abbrev pub terms_for : Extent → Profile → Terms
terms_for extent profile = terms_of (reply_limit_of extent) profile

-- how many rows a capture may have
abbrev pub rows_allowed : Extent → ℕ
rows_allowed FirstBreak = most_rows
rows_allowed WholeCapture = greatest_limit

-- the reply limit counts
abbrev pub counting : Profile → Terms
counting profile = terms_of Counts profile

-- what its records are judged by on the line
abbrev pub line_rules : Terms → LineRules
line_rules terms = record { rate = terms.profile.rate; reply_limit = terms.reply_limit; replies = replies_of terms.profile.deck }

-- the records keep the rules: those of blocks, pairing and timing, by which they can be cut into exchanges and a
-- tail; and some run of the deck gives exactly the replies of these exchanges
pub record IsOk (terms : Terms) (records : List LineByte) : Type 0 where
  pub exchanges : List Exchange
  pub tail : List LineByte
  pub cut : Cut (line_rules terms) records exchanges tail
  pub run : HasRun terms.profile exchanges

-- what a reason says of the exchanges so far, of the tail and of the next record: that no run remains is said where
-- the record ends an exchange with which the exchanges have no run; all others are reasons of pairing, by the tail
abbrev pub Applies : Terms → List Exchange → List LineByte → LineByte → Reason → Type 0
Applies terms exchanges tail next NoRun = (e : Exchange) × IsExchange (line_rules terms) (tail ++ next ∷ []) e × (¬ HasRun terms.profile (exchanges ++ e ∷ []))
Applies terms exchanges tail next reason = Holds (line_rules terms) reason tail next

-- these records keep the rules, and with the next one they do not; the reason is the first in the order of
-- reasons that applies to the next record
pub record Breaks (terms : Terms) (records : List LineByte) (next : LineByte) (reason : Reason) : Type 0 where
  pub exchanges : List Exchange
  pub tail : List LineByte
  pub cut : Cut (line_rules terms) records exchanges tail
  pub run : HasRun terms.profile exchanges
  pub not_ok : ¬ IsOk terms (records ++ next ∷ [])
  pub is_reason : IsFirst (Applies terms exchanges tail next) order reason

-- all the records keep the rules, and these are how many records there are, how many complete exchanges, and
-- how many records are open at the end
pub record AreCounts (terms : Terms) (items : List LineByte) (records exchanges tail : ℕ) : Type 0 where
  pub cut_exchanges : List Exchange
  pub cut_tail : List LineByte
  pub cut : Cut (line_rules terms) items cut_exchanges cut_tail
  pub run : HasRun terms.profile cut_exchanges
  pub number : records ≡ length items
  pub exchange_number : exchanges ≡ length cut_exchanges
  pub tail_number : tail ≡ length cut_tail

-- of these records, before which so many come, the one with this number is the first that breaks a rule, and this is the reason
pub record IsFirstBreak (terms : Terms) (past : ℕ) (items : List LineByte) (at : ℕ) (reason : Reason) : Type 0 where
  pub before : List LineByte
  pub next : LineByte
  pub after : List LineByte
  pub split : items ≡ before ++ next ∷ after
  pub number : at ≡ past + length before + 1
  pub breaks : Breaks terms before next reason

-- counts that a capture can have: an exchange has 6 to 36 records, and the open tail 35 at most
pub record CanBeCounts (records exchanges tail : ℕ) : Type 0 where
  pub few : records ≤ most_rows
  pub short : tail ≤ 35
  pub enough : exchanges * 6 + tail ≤ records
  pub no_more : records ≤ exchanges * 36 + tail

-- the number of a record that can be judged
pub record CanBeBreak (at : ℕ) : Type 0 where
  pub counted : 1 ≤ at
  pub few : at ≤ most_rows

-- a verdict that some capture has
abbrev pub CanBeVerdict : Verdict → Type 0
CanBeVerdict (Yes records exchanges tail) = CanBeCounts records exchanges tail
CanBeVerdict (No at reason) = CanBeBreak at
