-- The names from elsewhere that the proofs of this crate cite, passed on from one place. Declares nothing.
pub use Rattle.block9.proofs.CutLemmas.{cut_joined, cut_once, cut_parted, exchange_kept, kept_by_tail, kept_less, last_apart, tail_by_kept, tail_no_exchange}
pub use Rattle.block9.proofs.KeptLemmas.{quiet_kept}
pub use Rattle.block9.proofs.LineLemmas.{same_parts, whole_long, whole_parts}
pub use Rattle.block9.proofs.OrderLemmas.{first_before_last, first_holds, first_once, last_is_first, rank}
pub use Rattle.block9.proofs.StepLemmas.{still_tail, tail_short}
pub use Rattle.block9.proofs.TailLemmas.{in_reply_of, last_time-append, place_in_command, place_of_command}
pub use Rattle.report9.specs.declared.why_no.EndedExchange.{EndedExchange}
unfoldable pub use Rattle.block9.specs.Command.{command_of}
pub use Rattle.block9.specs.Exchange.{BeginsLate, Does, IsCommand, IsExchange, IsKept, IsTail, step_of, tail_after, TellsLate}
pub use Rattle.block9.specs.declared.pairer.Step.TheVariants.{the_data as Step}
pub use Rattle.block9.specs.Line.{bytes_of, IsLinked, last_time, reply_limit}
pub use Rattle.block9.specs.Pairer.{IsOpenAfter, Paired}
pub use Rattle.block9.specs.Reason.{Holds, IsFirst, IsReason, order}
pub use Rattle.block9.specs.Working.Table.{pairing}
pub use Rattle.block9.specs.declared.block.Block.{Block}
pub use Rattle.block9.specs.declared.command.Command.TheVariants.{the_data as Command}
pub use Rattle.capture9.proofs.GivenLemmas.{AreGiven, given-more, given-none, given-refused, no_rows-can_be}
pub use Rattle.capture9.proofs.RecordsLemmas.{refused-after}
pub use Rattle.capture9.proofs.TextLemmas.{some-text}
pub use Rattle.capture9.specs.Capture.{IsStartOf}
pub use Rattle.capture9.specs.Error.{is_of_text}
pub use Rattle.capture9.specs.Fields.{greatest_limit, most_rows}
pub use Rattle.capture9.specs.Records.{IsPlaced, Progress, TakesRecord}
pub use Rattle.capture9.specs.Rows.{HasHeader, rows_of, rows_within}
pub use Rattle.capture9.specs.SomeText.{CanBeRows, IsOfSomeText}
pub use Rattle.capture9.specs.declared.line_byte.Wire.TheVariants.{Controller, Deck, the_data as Wire}
pub use Rattle.deck9.proofs.RunLemmas.{ends_more, ends_none, some_end}
pub use Rattle.deck9.proofs.RunSearch.{run_start}
pub use Rattle.deck9.specs.Going.{goes_on, on_at_first}
pub use Rattle.deck9.specs.Run.{HasRun, IsRun, on_through}
pub use Rattle.deck9.specs.declared.mode.Mode.{Mode}
pub use Rattle.deck9.specs.declared.state.Register.TheVariants.{the_data as Register}
pub use Rattle.judge9.specs.Judging.{Answers, Answer, answer_of, IsAnswer, IsAnswerFrom, IsTheAnswer}
pub use Rattle.report9.specs.declared.verdict.Beginning.TheVariants.{the_data as Beginning}
pub use Rattle.judge9.specs.Verdict.{Applies, AreCounts, Breaks, counting, IsFirstBreak, IsOk, line_rules, Terms}
pub use Rattle.why9.specs.Shown.{CouldShow}
pub use Rattle.track9.specs.Following.{KeepsEnds}
pub use Rattle.block9.specs.NextPart.{begins_next_part, may_begin, takes_up_at}
pub use Rattle.judge9.specs.Beginning.{from_command, judged_from, judged_rows, passed_before, Rest, rest_after}
pub use Rattle.judge9.specs.Parts.{AreParts, AreTotals, BrokenPart, exchanges_of, in_parts, IsPart, number_of, Part}
pub use Rattle.judge9.specs.Parts.Event.{exchange, late_reply}
pub use Rattle.judge9.specs.Parts.{AreEvents, AreEventsAt, Event, events_of, IsEvent, late_replies}
pub use Rattle.judge9.proofs.ByOutcome.{AreOutcomes, besides_by, events_by, exchanges_after, TellsBesides}
pub use Rattle.report9.specs.WhyText.{text_of_why}
pub use Rattle.judge9.specs.Working.Beginnings.{BeginsAt, ComesFirst, GivesAll, last_of, NoneBegins, PassesOver, Resumes, ResumesAfter, TakesUp}
pub use Rattle.std.proofs.Common.{ap, arith, drop, Global, if◌then◌else◌, inl, inr, length-append, length-take-le, OnOk, option_map, refl, subst, sym, Vec}
pub use Rattle.std.proofs.Common.{◌*◌, ◌+◌, ◌++◌, ◌-◌, ◌<◌, ◌^◌, ◌↔◌, ◌∙◌, ◌∷◌, ◌≡◌, ◌≢◌, ◌≤◌, ◌⊎◌}
pub use Rattle.std.proofs.KnownBytes.{Appends-nil, Appends-trans}
pub use Rattle.std.proofs.Math.Seq.{take-append_seam, take-length}
pub use Rattle.std.proofs.lemmas.Bool.{and_parts, cases_Bool, cases_lt, false≢true}
pub use Rattle.std.proofs.lemmas.List.{append-nil, append_assoc, length-map, length_push, nil_from_length, take-append-drop, take-append-le, take_all}
pub use Rattle.std.proofs.lemmas.List.Elements.{All-cons, All-nil}
pub use Rattle.std.specs.Option.{ForSome, IfNone}
pub use Rattle.std.specs.Prelude.{map}
pub use Rattle.std.specs.Result.{IsErrAnd}
pub use Rattle.block9.specs.declared.line_rules.LineRules.{LineRules}
pub use Rattle.block9.specs.declared.line_rules.ReplyLimit.TheVariants.{Counts, LeftAside, the_data as ReplyLimit}
pub use Rattle.report9.proofs.WriteLemmas.{first_part, part_after}
pub use Rattle.track9.proofs.OneKnowledge.{known_of_ends, knowledge_same}
pub use Rattle.deck9.specs.Knowledge.{IsKnown, IsKnownEntry}
pub use Rattle.deck9.specs.ModeSet.{has}
pub use Rattle.deck9.specs.declared.knowledge.Known.TheVariants.{the_data as Known}
pub use Rattle.deck9.specs.declared.knowledge.KnownEntry.TheVariants.{the_data as KnownEntry}
pub use Rattle.deck9.specs.declared.mode_set.ModeSet.{ModeSet}
pub use Rattle.report9.specs.Error.{refusal_by}
pub use Rattle.block9.specs.Exchange.{records_in, records_of}
pub use Rattle.report9.specs.Lines.{line_of}
pub use Rattle.judge9.specs.Working.{[], All, Appends, AppendsPart, AreReached, Bool, BreaksAtLast, Break, CanBeResult, CaptureError, CaptureKind, Cut, Ends, Err, Exchange, false, Feed, Follower}
pub use Rattle.judge9.specs.Working.{GivesEnd, GivesRecord, GivesRefusal, Goes, IfErr, IfOk, IfSome, IsKnowledge, IsTrue, JudgeError, Knowledge, length, line_of_exchange, LineByte}
pub use Rattle.judge9.specs.Working.{List, None, Ok, Option, Outcome, Possible, Profile, Reason, refusal_of, Result, Rows, RunVerdict, Some, State}
pub use Rattle.judge9.specs.Working.{StoppedBefore, suc, take, Takes, Tracked, true, Turn, Verdict, View, zero, ℕ}
pub use Rattle.judge9.specs.Working.Turns.{AreOpen, Comes, ComesTo, IsObserved, IsOpen, Took, Turned}
pub use Rattle.judge9.specs.Events.{AreRead, ComesToEnd, IsRefused, IsSilent, Reached, ShowsBreak, Tells, TellsBreak, TellsExchange, TellsLate as TellsLateReply, WereGiven, WereRead}
pub use Rattle.judge9.specs.History.{History, IsBesides, IsHistory, no_part, nothing_told, told_in}
pub use Rattle.judge9.specs.Standing.{Advances, AreCounted, CanGoOn, Fits, GoesOn, InPart, IsBehind, IsFresh, IsWithin, KnowsNothing, left_of, Next, Observes, ShowsExchange, Spoils, Stands, StandsAt, Stops, totals_of, verdict_at, verdict_of, weight}
pub use Rattle.judge9.specs.declared.judging.Judging.{Judging}
pub use Rattle.judge9.specs.declared.stage.Stage.TheVariants.{the_data as Stage}
pub use Rattle.judge9.specs.Working.Marking.{GrowsBy, late_besides, IsMarked, IsToldOf}
pub use Rattle.judge9.specs.Verdict.{reply_limit_of, rows_allowed, terms_for, terms_of}
pub use Rattle.judge9.specs.Working.{WhyNo}
pub use Rattle.judge9.specs.Keeping.{EndedAt, IsEnd, KeepsPart, TellsWhy}
pub use Rattle.judge9.specs.Working.Telling.{IsKept as KeepsTold, IsTextOf, IsTold, SaysNoRun, SaysWhy}
pub use Rattle.judge9.specs.Retimed.{AreRetimed, AreSameParts, IsSamePart, NoneIsLate, told_untimed, untimed}
pub use Rattle.judge9.specs.Why.{IsWhy, SaysLate}
pub use Rattle.judge9.specs.Report.{AreTextsOf, by_totals, by_verdict, Ending, IsBreakText, IsEnding, IsEventText, IsPartText, IsToFirstBreak, IsToldText, IsToTheEnd, last_line, Told, Written}
pub use Rattle.report9.specs.Lines.{line_of_totals}
pub use Rattle.report9.specs.OpenRecords.{IsBefore}
pub use Rattle.report9.specs.declared.totals.Totals.{Totals}
pub use Rattle.report9.specs.declared.verdict.Scope.{Scope}
pub use Rattle.report9.specs.declared.verdict.Extent.TheVariants.{the_data as Extent}
pub use Rattle.judge9.specs.Report.{IsEndingOf, IsText, ToldSoFar}
pub use Rattle.judge9.specs.declared.kept.Kept.{Kept}
pub use Rattle.judge9.specs.Working.Reporting.{AllTold, ending_of, IsRefusal, Judged, JudgesRun, KeepsAll}
pub use Rattle.block9.specs.declared.open.Open.{Open}
