-- Exchanges, tails, and how a list of records is cut into them.
use Rattle.block9.specs.declared.line_rules.LineRules.{LineRules}
use Rattle.std.specs.Prelude.{ℕ, ◌+◌, ◌<◌, ◌≤◌, ◌≡◌, ◌==◌, ◌||◌, not, Bool, true, false, None, Option, Some, List, [], ◌∷◌, ◌++◌, length}
use Rattle.capture9.specs.declared.line_byte.LineByte.{LineByte}
use Rattle.capture9.specs.declared.line_byte.Wire.TheVariants.{Controller, Deck}
use Rattle.block9.specs.declared.block.Block.{Block}
use Rattle.block9.specs.declared.command.Command.{Command}
use Rattle.block9.specs.declared.command.Command.TheVariants.{DeviceType, Unlisted}
use Rattle.block9.specs.declared.exchange.Exchange.{Exchange}
use Rattle.block9.specs.declared.line_rules.ReplyLimit.TheVariants.{Counts}
use Rattle.block9.specs.declared.pairer.Step.{Step}
use Rattle.block9.specs.declared.pairer.Step.TheVariants as step
use Rattle.block9.specs.Block.{spelling}
use Rattle.block9.specs.Command.{command_of, is_ack, is_nak, is_reply_time_valid}
use Rattle.block9.specs.Replies.{takes}
use Rattle.block9.specs.Line.{IsWhole, IsBegun, first_time, last_time, reply_limit}

-- a complete command: a block on the controller's wire, with what it means
pub record IsCommand (rules : LineRules) (records : List LineByte) (b : Block) (c : Command) : Type 0 where
  pub whole : IsWhole Controller records b
  pub meaning : command_of rules.rate b ≡ Some c

-- the reply's first record comes not before the command's last one, and where the reply limit counts not too late after it
pub record IsInTime (rules : LineRules) (command reply : List LineByte) : Type 0 where
  pub later : last_time command ≤ first_time reply
  pub soon : rules.reply_limit ≡ Counts → first_time reply ≤ last_time command + reply_limit

-- the records are a command and its reply
pub record IsExchange (rules : LineRules) (records : List LineByte) (e : Exchange) : Type 0 where
  pub asked : List LineByte
  pub answered : List LineByte
  pub split : records ≡ asked ++ answered
  pub command : IsCommand rules asked e.block e.command
  pub reply : IsWhole Deck answered e.reply
  pub in_time : IsInTime rules asked answered
  pub time : e.time_us ≡ first_time records
  pub delay : last_time asked + e.delay_us ≡ first_time answered
  pub kind : takes rules.replies e.block e.command e.reply ≡ true
  pub valid_time : is_reply_time_valid rules.rate e.command e.reply ≡ true

-- how many records an exchange has
abbrev pub records_of : Exchange → ℕ
records_of e = length (spelling e.block) + length (spelling e.reply)

-- how many records exchanges have
abbrev pub records_in : List Exchange → ℕ
records_in [] = 0
records_in (e ∷ es) = records_of e + records_in es

-- a command, of a block in this group, only asks where it is answered so: the senses do, which are group 6, DEVICE TYPE, and of the
-- commands that are not listed those that are answered with data
abbrev pub asks_in : ℕ → Command → Block → Bool
asks_in group DeviceType reply = true
asks_in group (Unlisted head) reply = (group == 6) || not (is_ack reply || is_nak reply)
asks_in group c reply = group == 6

-- an exchange only asks
abbrev pub only_asks : Exchange → Bool
only_asks e = asks_in e.block.group e.command e.reply

-- what may be open at the end: nothing, a command that is begun or complete, or a command and the beginning of its reply
pub data IsTail (rules : LineRules) (records : List LineByte) : Type 0 where
  nothing : records ≡ [] → IsTail rules records
  in_command : IsBegun Controller records → IsTail rules records
  after_command : (b : Block) (c : Command) → IsCommand rules records b c → IsTail rules records
  in_reply : (command reply : List LineByte) (b : Block) (c : Command) → records ≡ command ++ reply → IsCommand rules command b c → IsBegun Deck reply
      → IsInTime rules command reply → IsTail rules records

-- the records are those of the exchanges, in order, and then the tail
abbrev pub Cut : LineRules → List LineByte → List Exchange → List LineByte → Type 0
Cut rules records [] tail = (records ≡ tail) × IsTail rules tail
Cut rules records (e ∷ es) tail = (front : List LineByte) × (rest : List LineByte) × (records ≡ front ++ rest) × IsExchange rules front e × Cut rules rest es tail

-- the records keep the rules of blocks, pairing and timing: they can be cut
pub record IsKept (rules : LineRules) (records : List LineByte) : Type 0 where
  pub exchanges : List Exchange
  pub tail : List LineByte
  pub cut : Cut rules records exchanges tail

-- after a complete command the reply begins with this record, later than the reply limit
pub record BeginsLate (rules : LineRules) (tail : List LineByte) (r : LineByte) : Type 0 where
  pub asked : (b : Block) × (c : Command) × IsCommand rules tail b c
  pub wire : r.wire ≡ Deck
  pub late : last_time tail + reply_limit < r.time_us

-- whether it does
abbrev pub TellsLate : LineRules → List LineByte → LineByte → Bool → Type 0
TellsLate rules tail r true = BeginsLate rules tail r
TellsLate rules tail r false = ¬ BeginsLate rules tail r

-- what a record does that keeps the rules: it begins a block or goes on with one, it begins a late reply where the reply limit is left aside, it ends a
-- command, or it ends a reply and so completes this exchange
pub data Outcome : Type 0 where
  leaves_open : Outcome
  answers_late : Outcome
  asks : Outcome
  completes : Exchange → Outcome

-- the step that it is
abbrev pub step_of : Outcome → Step
step_of leaves_open = step.Waiting
step_of answers_late = step.LateReply
step_of asks = step.Command
step_of (completes e) = step.Exchange

-- the exchange that it completes
abbrev pub completed_by : Outcome → Option Exchange
completed_by leaves_open = None
completed_by answers_late = None
completed_by asks = None
completed_by (completes e) = Some e

-- the tail that it leaves: the tail grows by the record, and a complete exchange leaves nothing open
abbrev pub tail_after : List LineByte → LineByte → Outcome → List LineByte
tail_after tail r leaves_open = tail ++ r ∷ []
tail_after tail r answers_late = tail ++ r ∷ []
tail_after tail r asks = tail ++ r ∷ []
tail_after tail r (completes e) = []

-- a record after a tail does this, and keeps the rules
abbrev pub Does : LineRules → List LineByte → LineByte → Outcome → Type 0
Does rules tail r leaves_open = IsTail rules (tail ++ r ∷ []) × ((b : Block) (c : Command) → ¬ IsCommand rules (tail ++ r ∷ []) b c) × (¬ BeginsLate rules tail r)
Does rules tail r answers_late = IsTail rules (tail ++ r ∷ []) × BeginsLate rules tail r
Does rules tail r asks = (b : Block) × (c : Command) × IsCommand rules (tail ++ r ∷ []) b c
Does rules tail r (completes e) = IsExchange rules (tail ++ r ∷ []) e
