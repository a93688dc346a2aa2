-- The names from elsewhere that the proofs of this crate cite, passed on from one place. Declares nothing.
pub use Rattle.block9.specs.Block.{body_of, spelling, Spells}
pub use Rattle.block9.specs.Block.{head_of}
pub use Rattle.block9.specs.Command.{command_of, is_reply_time_valid}
pub use Rattle.block9.specs.Replies.{takes}
pub use Rattle.block9.specs.Exchange.{BeginsLate, completed_by, Cut, Does, IsCommand, IsExchange, IsInTime, IsKept, IsTail, Outcome, records_in, tail_after, TellsLate}
pub use Rattle.block9.specs.Exchange.Outcome.{answers_late, asks, completes, leaves_open}
pub use Rattle.block9.specs.Exchange.IsTail.{after_command, in_command, in_reply, nothing}
pub use Rattle.block9.specs.Line.{block_len, byte_gap, bytes_of, first_time, IsBegun, IsLinked, IsWhole, last_time}
pub use Rattle.block9.specs.Pairer.{BeginsWith, IsOpenAfter, Paired, Refuses, Takes}
pub use Rattle.block9.specs.Reason.{EndsReply, Holds, IsAnswered, IsFirst, IsReason, IsWholeCommand, order}
pub use Rattle.block9.specs.Working.Body.{block_of}
pub use Rattle.block9.specs.Working.Inside.{asked_on, closed_of, Closes, completed, grown, IsInside, IsTailWith, IsOf, IsTurn, IsTurned, last_fed, next_of, place_at, place_on, Stands, to_come}
pub use Rattle.block9.specs.Working.Table.{early_fault, ends_block, fault_at, is_late, is_soon, late_on, open_at, pairing, place_of, reply_fault, wire_fault}
pub use Rattle.block9.specs.declared.block.Block.{Block}
pub use Rattle.block9.specs.declared.command.Command.{Command}
pub use Rattle.block9.specs.declared.open.Open.{Open}
pub use Rattle.block9.specs.declared.open_block.OpenBlock.{OpenBlock}
pub use Rattle.block9.specs.declared.exchange.Exchange.{Exchange}
pub use Rattle.block9.specs.declared.line_rules.ReplyLimit.{ReplyLimit}
pub use Rattle.block9.specs.declared.line_rules.ReplyLimit.TheVariants.{Counts, LeftAside}
pub use Rattle.block9.specs.declared.place.Place.{Place}
pub use Rattle.block9.specs.declared.place.Place.TheVariants.{AfterCommand, Idle, InCommand, InReply}
pub use Rattle.block9.specs.declared.reason.Reason.{Reason}
pub use Rattle.block9.specs.declared.refusal.Refusal.{Refusal}
pub use Rattle.block9.specs.declared.reason.Reason.TheVariants.{ByteGap, CommandBeforeReply, CommandInsideReply, InvalidCommandTime, InvalidReplyTime, LateReply, NoReply, NoRun}
pub use Rattle.block9.specs.declared.reason.Reason.TheVariants.{ReplyInsideCommand, ReplyWithoutCommand, WrongGroup, WrongReply, WrongSum}
pub use Rattle.capture9.specs.declared.line_byte.LineByte.{LineByte}
pub use Rattle.capture9.specs.declared.line_byte.Wire.{Wire}
pub use Rattle.capture9.specs.declared.line_byte.Wire.TheVariants.{Controller, Deck}
pub use Rattle.std.proofs.Common.{[], ap, arith, Bool, drop, false, get_or, inl, inr, length, length-append, List, None, Option, refl, rules, slice_index_or, Some, subst, suc}
pub use Rattle.std.proofs.Common.{sym, take, true, ℕ, ◌%◌, ◌*◌, ◌++◌, ◌+◌, ◌-◌, ◌/◌, ◌<◌, ◌==◌, ◌↔◌, ◌∙◌, ◌∷◌, ◌≡◌, ◌≢◌, ◌≤◌}
pub use Rattle.std.proofs.lemmas.Bool.{false≢true}
pub use Rattle.std.proofs.lemmas.Bool.Decides.{nat_tests}
pub use Rattle.std.proofs.lemmas.Grind.{common_steps}
pub use Rattle.std.proofs.lemmas.List.{append-nil, append_assoc, drop_at, length-map, length_push, map_push, same_from_push, take-append-le, take_all, take_at, take_more}
pub use Rattle.std.specs.List.{slice_get, sum}
pub use Rattle.std.specs.Option.{ForSome, option_or}
pub use Rattle.std.specs.Prelude.{if◌then◌else◌, nat_le, nat_lt}
unfoldable pub use Rattle.tc25.specs.Day.{time_of}
