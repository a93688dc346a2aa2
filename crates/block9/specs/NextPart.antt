-- Which record may begin a command, and which one begins the next part of a capture after a break.
use Rattle.std.specs.Prelude.{◌+◌, nat_lt, not, ◌&&◌, ◌||◌, Bool, true, false, Option, None, Some}
use Rattle.capture9.specs.declared.line_byte.LineByte.{LineByte}
use Rattle.block9.specs.declared.reason.Reason.{Reason}
use Rattle.block9.specs.declared.reason.Reason.TheVariants.{ByteGap, CommandBeforeReply, CommandInsideReply, NoReply}
use Rattle.block9.specs.Line.{byte_gap, is_commands_wire}

-- a record that comes after `last` may be the first of a command: it comes on the controller's wire, and after a record of the
-- deck or after the byte gap. The first record of a capture never may: nobody knows what came before it
abbrev pub may_begin : Option LineByte → LineByte → Bool
may_begin None next = false
may_begin (Some last) next = is_commands_wire next.wire && (not (is_commands_wire last.wire) || nat_lt (last.time_us + byte_gap) next.time_us)

-- the reasons for which a command may begin at the record that breaks: it comes where a reply is to come or to end, or after
-- the byte gap
abbrev pub takes_up_at : Reason → Bool
takes_up_at CommandBeforeReply = true
takes_up_at NoReply = true
takes_up_at CommandInsideReply = true
takes_up_at ByteGap = true
takes_up_at _ = false

-- the record that breaks is itself the first of the next part
abbrev pub begins_next_part : Reason → LineByte → Bool
begins_next_part reason breaking = takes_up_at reason && is_commands_wire breaking.wire
