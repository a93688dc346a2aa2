-- What the clauses of private functions cite, and the names from elsewhere that its parts need, passed on from here. No public
-- contract reaches it, so no reader has to believe it.
pub mod Beginnings
pub mod Marking
pub mod Reporting
pub mod Telling
pub mod Turns
pub use Rattle.block9.specs.Exchange.{Cut}
pub use Rattle.block9.specs.Pairer.{Paired, Refuses, Takes}
pub use Rattle.block9.specs.declared.exchange.Exchange.{Exchange}
pub use Rattle.block9.specs.Exchange.{Outcome}
pub use Rattle.block9.specs.declared.reason.Reason.TheVariants.{the_data as Reason}
pub use Rattle.capture9.specs.Records.{GivesEnd, GivesRecord, GivesRefusal, Progress}
pub use Rattle.capture9.specs.Rows.{Rows}
pub use Rattle.capture9.specs.declared.error.CaptureError.{CaptureError}
pub use Rattle.capture9.specs.declared.error.CaptureKind.TheVariants.{the_data as CaptureKind}
pub use Rattle.capture9.specs.declared.line_byte.LineByte.{LineByte}
pub use Rattle.capture9.specs.declared.records.Standing.TheVariants.{the_data as Standing}
pub use Rattle.deck9.specs.Run.{Ends, IsRunFrom, last_state}
pub use Rattle.deck9.specs.State.{IsFirst}
pub use Rattle.deck9.specs.Step.{AreReached, Goes}
pub use Rattle.deck9.specs.declared.profile.Profile.{Profile}
pub use Rattle.deck9.specs.declared.state.State.{State}
pub use Rattle.judge9.specs.Judging.{CanBeResult, StoppedBefore}
pub use Rattle.judge9.specs.declared.follower.Follower.{Follower}
pub use Rattle.judge9.specs.declared.feed.Feed.{Feed}
pub use Rattle.judge9.specs.declared.event.Break.{Break}
pub use Rattle.judge9.specs.declared.event.Event.TheVariants.{the_data as Turn}
pub use Rattle.std.specs.Io.KnownBytes.{Appends}
pub use Rattle.std.specs.List.{All}
pub use Rattle.std.specs.Option.{IfSome}
pub use Rattle.std.specs.Prelude.{[], Bool, Err, false, IsTrue, length, List, None, Ok, Option, Result, reverse, slice_get, Some, suc, take, true, zero, ℕ, ⊤}
pub use Rattle.std.specs.Result.{IfErr, IfOk}
pub use Rattle.report9.specs.Explanation.{line_of_exchange}
pub use Rattle.report9.specs.Writing.{AppendsPart}
pub use Rattle.deck9.specs.Knowledge.{IsKnowledge}
pub use Rattle.track9.specs.Tracker.{Possible, Tracked}
pub use Rattle.deck9.specs.declared.knowledge.Knowledge.{Knowledge}
pub use Rattle.report9.specs.Error.{refusal_of}
pub use Rattle.report9.specs.declared.error.JudgeError.TheVariants.{the_data as JudgeError}
pub use Rattle.report9.specs.declared.run_verdict.RunVerdict.TheVariants.{the_data as RunVerdict}
pub use Rattle.report9.specs.declared.verdict.Beginning.TheVariants.{the_data as Beginning}
pub use Rattle.report9.specs.declared.verdict.Verdict.TheVariants.{the_data as Verdict}
pub use Rattle.report9.specs.declared.verdict.View.TheVariants.{the_data as View}
pub use Rattle.report9.specs.declared.why_no.WhyNo.TheVariants.{the_data as WhyNo}
pub use Rattle.why9.specs.Contradiction.{BreaksAtLast}
