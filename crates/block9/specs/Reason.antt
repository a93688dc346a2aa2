-- Which rule a record breaks after a tail: a line for each reason, the order in which they count, their limits, their
-- names and their texts.
use Rattle.block9.specs.declared.line_rules.LineRules.{LineRules}
use Rattle.std.specs.Prelude.{ℕ, ◌+◌, ◌%◌, ◌<◌, ◌≤◌, ◌≡◌, ◌≢◌, ◌⊎◌, false, Option, Some, None, List, [], ◌∷◌, ◌++◌, length, codes}
use Rattle.std.specs.List.{sum}
use Rattle.capture9.specs.declared.line_byte.LineByte.{LineByte}
use Rattle.capture9.specs.declared.line_byte.Wire.TheVariants.{Controller, Deck}
use Rattle.block9.specs.declared.block.Block.{Block}
use Rattle.block9.specs.declared.command.Command.{Command}
use Rattle.block9.specs.declared.line_rules.ReplyLimit.TheVariants.{Counts}
use Rattle.block9.specs.declared.reason.Reason.{Reason}
use Rattle.block9.specs.declared.reason.Reason.TheVariants.{WrongGroup, WrongSum, ByteGap, ReplyWithoutCommand, ReplyInsideCommand, CommandBeforeReply, CommandInsideReply, WrongReply, InvalidCommandTime, InvalidReplyTime, LateReply, NoReply, NoRun}
use Rattle.block9.specs.Command.{command_of, is_reply_time_valid}
use Rattle.block9.specs.Line.{IsBegun, IsWhole, allows, block_len, byte_gap, bytes_of, group_in, last_time, reply_limit}
use Rattle.block9.specs.Exchange.{BeginsLate, IsCommand, IsInTime}
use Rattle.block9.specs.Replies.{takes}

-- ---- what a tail is, besides nothing and a begun command

-- a complete command
abbrev pub IsWholeCommand : LineRules → List LineByte → Type 0
IsWholeCommand rules tail = (b : Block) × (c : Command) × IsCommand rules tail b c

-- a complete command, and after it, in time, the first records of its reply
pub record IsAnswered (rules : LineRules) (tail : List LineByte) (c : Command) (reply : List LineByte) : Type 0 where
  pub command : List LineByte
  pub block : Block
  pub split : tail ≡ command ++ reply
  pub is_command : IsCommand rules command block c
  pub begun : IsBegun Deck reply
  pub in_time : IsInTime rules command reply

-- these are the records of the block that is begun at the end of a tail: a command, or the reply to one
abbrev pub IsOpen : LineRules → List LineByte → List LineByte → Type 0
IsOpen rules tail records = ((tail ≡ records) × IsBegun Controller records) ⊎ ((c : Command) × IsAnswered rules tail c records)

-- the record ends this reply to this command, which has this block
abbrev pub EndsReply : LineRules → List LineByte → LineByte → Block → Command → Block → Type 0
EndsReply rules tail r block c reply =
    (records : List LineByte) × (answered : IsAnswered rules tail c records) × (answered.block ≡ block) × IsWhole Deck (records ++ r ∷ []) reply

-- ---- the reasons

-- what a reason says of a tail and of the record after it; of several that hold, the order below tells which counts
abbrev pub Holds : LineRules → Reason → List LineByte → LineByte → Type 0
-- the deck sends where nothing is open, or inside a command
Holds rules ReplyWithoutCommand tail r = (tail ≡ []) × (r.wire ≡ Deck)
Holds rules ReplyInsideCommand tail r = IsBegun Controller tail × (r.wire ≡ Deck)
-- the controller sends where a reply is to come, within the reply limit or after it, or inside a reply
Holds rules CommandBeforeReply tail r = IsWholeCommand rules tail × (r.wire ≡ Controller) × (r.time_us ≤ last_time tail + reply_limit)
Holds rules NoReply tail r = IsWholeCommand rules tail × (r.wire ≡ Controller) × (last_time tail + reply_limit < r.time_us)
Holds rules CommandInsideReply tail r = ((c : Command) × (reply : List LineByte) × IsAnswered rules tail c reply) × (r.wire ≡ Controller)
-- the reply begins after the reply limit, where that counts
Holds rules LateReply tail r = (rules.reply_limit ≡ Counts) × BeginsLate rules tail r
-- a block is begun, and the record comes after the byte gap
Holds rules ByteGap tail r = ((records : List LineByte) × IsOpen rules tail records) × (last_time tail + byte_gap < r.time_us)
-- the first record of a block has a group that its wire does not allow
Holds rules WrongGroup tail r = ((tail ≡ []) ⊎ IsWholeCommand rules tail) × (allows r.wire (group_in r.byte) ≡ false)
-- a block is begun, and the record is in the place of its checksum and is not the sum of the bytes before it
Holds rules WrongSum tail r =
    (records : List LineByte) × IsOpen rules tail records × (length records + 1 ≡ block_len records) × (r.byte ≢ sum (bytes_of records) % 256)
-- a command that ends has no meaning, since its time is not valid
Holds rules InvalidCommandTime tail r = (b : Block) × IsWhole Controller (tail ++ r ∷ []) b × (command_of rules.rate b ≡ None)
-- a reply that ends is one that its command does not take, or has a time that should be valid and is not
Holds rules WrongReply tail r =
    (b : Block) × (c : Command) × (reply : Block) × EndsReply rules tail r b c reply × (takes rules.replies b c reply ≡ false)
Holds rules InvalidReplyTime tail r = (b : Block) × (c : Command) × (reply : Block) × EndsReply rules tail r b c reply × (is_reply_time_valid rules.rate c reply ≡ false)
-- this needs a deck to be followed, so it never holds here
Holds rules NoRun tail r = ⊥

-- the order in which the reasons count: the wire, the time, the group, the sum, what the block means, the deck
abbrev pub order : List Reason
order =
    ReplyWithoutCommand ∷ ReplyInsideCommand ∷ CommandBeforeReply ∷ NoReply ∷ CommandInsideReply
    ∷ LateReply ∷ ByteGap
    ∷ WrongGroup
    ∷ WrongSum
    ∷ InvalidCommandTime ∷ WrongReply ∷ InvalidReplyTime
    ∷ NoRun
    ∷ []

-- the first one in a list that holds
abbrev pub IsFirst : (Reason → Type 0) → List Reason → Reason → Type 0
IsFirst holds [] reason = ⊥
IsFirst holds (x ∷ more) reason = ((reason ≡ x) × holds x) ⊎ ((¬ holds x) × IsFirst holds more reason)

-- the reason why a record breaks the rules after a tail: the first one in the order that holds
abbrev pub IsReason : LineRules → List LineByte → LineByte → Reason → Type 0
IsReason rules tail r reason = IsFirst (λ x. Holds rules x tail r) order reason

-- ---- the limits, the names and the texts

-- the longest time, in microseconds, after the record before that a reason of time measures by
abbrev pub limit_of : Reason → Option ℕ
limit_of ByteGap = Some byte_gap
limit_of CommandBeforeReply = Some reply_limit
limit_of LateReply = Some reply_limit
limit_of NoReply = Some reply_limit
limit_of _ = None

-- the short name that a report gives
abbrev pub name_of : Reason → List ℕ
name_of WrongGroup = codes "B1"
name_of WrongSum = codes "B2"
name_of ByteGap = codes "B3"
name_of ReplyWithoutCommand = codes "P1"
name_of ReplyInsideCommand = codes "P2"
name_of CommandBeforeReply = codes "P3"
name_of CommandInsideReply = codes "P4"
name_of WrongReply = codes "P5"
name_of InvalidCommandTime = codes "P6"
name_of InvalidReplyTime = codes "P7"
name_of LateReply = codes "L1"
name_of NoReply = codes "L2"
name_of NoRun = codes "M1"

-- the reason in words
abbrev pub text_of : Reason → List ℕ
text_of WrongGroup = codes "wrong group for this wire"
text_of WrongSum = codes "wrong sum"
text_of ByteGap = codes "gap inside a block"
text_of ReplyWithoutCommand = codes "reply without a command"
text_of ReplyInsideCommand = codes "reply before the end of the command"
text_of CommandBeforeReply = codes "command before the reply"
text_of CommandInsideReply = codes "command inside a reply"
text_of WrongReply = codes "wrong kind of reply"
text_of InvalidCommandTime = codes "invalid time in a command"
text_of InvalidReplyTime = codes "invalid time in a reply"
text_of LateReply = codes "late reply"
text_of NoReply = codes "no reply"
text_of NoRun = codes "no run remains"
