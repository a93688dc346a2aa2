-- Which rule a record breaks after a tail, as the code reads it: by the place where the tail stands and by lengths.
-- Private functions alone cite this; it gives the reasons of specs/Reason.antt by proofs/ReasonLemmas.antt.
use Rattle.block9.specs.declared.line_rules.LineRules.{LineRules}
use Rattle.std.specs.Prelude.{◌+◌, ◌-◌, ◌%◌, ◌==◌, nat_lt, nat_le, if◌then◌else◌, Bool, false, not, Option, Some, None, List, [], ◌∷◌, length, take, drop}
use Rattle.std.specs.List.{sum}
use Rattle.std.specs.Option.{option_or}
use Rattle.capture9.specs.declared.line_byte.LineByte.{LineByte}
use Rattle.capture9.specs.declared.line_byte.Wire.TheVariants.{Controller, Deck}
use Rattle.capture9.specs.declared.line_byte.Wire.{Wire}
use Rattle.block9.specs.declared.command.Command.{Command}
use Rattle.block9.specs.declared.block.Block.{Block}
use Rattle.block9.specs.declared.line_rules.ReplyLimit.{ReplyLimit}
use Rattle.block9.specs.declared.line_rules.ReplyLimit.TheVariants.{Counts, LeftAside}
use Rattle.block9.specs.declared.place.Place.{Place}
use Rattle.block9.specs.declared.place.Place.TheVariants.{Idle, InCommand, AfterCommand, InReply}
use Rattle.block9.specs.declared.reason.Reason.{Reason}
use Rattle.block9.specs.declared.reason.Reason.TheVariants.{WrongGroup, WrongSum, ByteGap, ReplyWithoutCommand, ReplyInsideCommand, CommandBeforeReply, CommandInsideReply, WrongReply, InvalidCommandTime, InvalidReplyTime, LateReply, NoReply}
use Rattle.block9.specs.Working.Body.{block_of}
use Rattle.block9.specs.Command.{command_of, is_reply_time_valid}
use Rattle.block9.specs.Replies.{takes}
use Rattle.block9.specs.Line.{allows, block_len, byte_gap, bytes_of, group_in, last_time, reply_limit}

-- where a tail stands, from how many records its first block has
abbrev pub place_of : List LineByte → Place
place_of [] = Idle
place_of (first ∷ more) =
    if nat_lt (length (first ∷ more)) (block_len (first ∷ more)) then InCommand
    else (if length (first ∷ more) == block_len (first ∷ more) then AfterCommand else InReply)

-- the records of the block that is open at the end of a tail
abbrev pub open_at : Place → List LineByte → List LineByte
open_at InCommand tail = tail
open_at InReply tail = drop (block_len tail) tail
open_at _ tail = []

-- the record is the last one of the block that is open
abbrev pub ends_block : List LineByte → Bool
ends_block [] = false
ends_block (first ∷ more) = length (first ∷ more) + 1 == block_len (first ∷ more)

-- whether a reply that begins at this record, or a command that does, is within the reply limit
abbrev pub is_soon : List LineByte → LineByte → Bool
is_soon tail r = nat_le r.time_us (last_time tail + reply_limit)

-- the record is of the deck, and begins its reply after the reply limit
abbrev pub late_on : Place → Wire → Bool → Bool
late_on AfterCommand Deck soon = not soon
late_on _ _ soon = false

abbrev pub is_late : Place → List LineByte → LineByte → Bool
is_late place tail r = late_on place r.wire (is_soon tail r)

-- a record on the wire whose turn it is not
abbrev pub wire_fault : Place → Wire → Bool → Option Reason
wire_fault Idle Deck soon = Some ReplyWithoutCommand
wire_fault InCommand Deck soon = Some ReplyInsideCommand
wire_fault AfterCommand Controller soon = if soon then Some CommandBeforeReply else Some NoReply
wire_fault InReply Controller soon = Some CommandInsideReply
wire_fault _ _ soon = None

-- a record that comes too late: to begin a reply, where the reply limit counts, or to go on with a block
abbrev pub time_fault : Place → ReplyLimit → Bool → Bool → Option Reason
time_fault Idle limit soon linked = None
time_fault AfterCommand Counts soon linked = if soon then None else Some LateReply
time_fault AfterCommand LeftAside soon linked = None
time_fault _ limit soon linked = if linked then None else Some ByteGap

-- a first byte whose group the wire does not allow
abbrev pub group_fault : Place → Bool → Option Reason
group_fault Idle allowed = if allowed then None else Some WrongGroup
group_fault AfterCommand allowed = if allowed then None else Some WrongGroup
group_fault _ allowed = None

-- a command with no meaning, since its time is not valid
abbrev pub command_fault : Option Command → Option Reason
command_fault None = Some InvalidCommandTime
command_fault (Some c) = None

-- a reply to a command of this block, where that has no meaning, or does not take the reply, or the reply has a time that is not valid
abbrev pub reply_fault : LineRules → Block → Option Command → Block → Option Reason
reply_fault rules block None reply = Some InvalidCommandTime
reply_fault rules block (Some c) reply = if takes rules.replies block c reply then (if is_reply_time_valid rules.rate c reply then None else Some InvalidReplyTime) else Some WrongReply

-- a reply to the command of this block
abbrev pub answer_fault : LineRules → Block → Block → Option Reason
answer_fault rules block reply = reply_fault rules block (command_of rules.rate block) reply

-- what the last record of a block breaks beside its sum; the block has the open records as its body
abbrev pub meaning_fault : LineRules → Place → List LineByte → List LineByte → Option Reason
meaning_fault rules InCommand tail current = command_fault (command_of rules.rate (block_of (bytes_of current)))
meaning_fault rules InReply tail current = answer_fault rules (block_of (bytes_of (take (block_len tail - 1) tail))) (block_of (bytes_of current))
meaning_fault rules _ tail current = None

-- what the last record of a block breaks, by its sum or by what the block means: nothing where it is not the last one
abbrev pub end_fault : LineRules → Place → List LineByte → List LineByte → LineByte → Option Reason
end_fault rules place tail current r =
    if ends_block current then option_or (if r.byte == sum (bytes_of current) % 256 then None else Some WrongSum) (meaning_fault rules place tail current) else None

-- what a record breaks by its turn, its time or its group
abbrev pub early_fault : ReplyLimit → Place → List LineByte → LineByte → Option Reason
early_fault limit place tail r =
    option_or (option_or (wire_fault place r.wire (is_soon tail r)) (time_fault place limit (is_soon tail r) (nat_le r.time_us (last_time tail + byte_gap))))
    (group_fault place (allows r.wire (group_in r.byte)))

-- the reason that stands first in the table, by the place where the tail stands
abbrev pub fault_at : LineRules → Place → List LineByte → LineByte → Option Reason
fault_at rules place tail r = option_or (early_fault rules.reply_limit place tail r) (end_fault rules place tail (open_at place tail) r)

-- the rule that a record breaks after a tail
abbrev pub pairing : LineRules → List LineByte → LineByte → Option Reason
pairing rules tail r = fault_at rules (place_of tail) tail r
