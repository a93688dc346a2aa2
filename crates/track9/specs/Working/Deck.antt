-- The names from elsewhere that definitions and proofs cite, of the deck, of its blocks, of time and of this crate's
-- contracts, passed on from one place. Declares nothing.
pub use Rattle.block9.specs.Command.{is_nak}
pub use Rattle.block9.specs.Replies.{is_own}
pub use Rattle.block9.specs.declared.block.Block.{Block}
pub use Rattle.block9.specs.declared.command.Command.{Command}
pub use Rattle.deck9.specs.Contradict.{CanPass, Passes}
pub use Rattle.deck9.specs.Drift.{Drift, KeepsRest, PairReaches}
pub use Rattle.deck9.specs.Effect.{Becomes, Does, effect_of, Forgets, KeepsPanel, moved_entry, switched as panel_switched}
pub use Rattle.deck9.specs.Local.{is_of_goal_or_register, may_ignore}
pub use Rattle.deck9.specs.Mode.{is_mode}
pub use Rattle.deck9.specs.ModeCalls.{both, is_some, KnowsModes, way}
pub use Rattle.deck9.specs.ModeSet.{bit_of, either, has, modes}
pub use Rattle.deck9.specs.Shows.{Agrees, AreSet, sense_of, Shows, shown_by, ShowsStatus, Tells}
pub use Rattle.deck9.specs.State.{entry_of, is_set, IsEntry, IsFirst, IsState, with_entry}
pub use Rattle.deck9.specs.Status.{status_of}
pub use Rattle.deck9.specs.Step.{AreReached, DeckStep, done, Exchanges, forgotten_with, Goes, ignored, refused}
pub use Rattle.block9.specs.Block.{head_of}
pub use Rattle.deck9.specs.Deck.{forgotten_beside, way_of}
pub use Rattle.deck9.specs.declared.deck.Deck.{Deck}
pub use Rattle.deck9.specs.declared.deck.Forgotten.{Forgotten}
pub use Rattle.deck9.specs.declared.effect.Change.{Change}
pub use Rattle.deck9.specs.declared.effect.Change.TheVariants.{Next, Prev, Recall, Reset, SetAt, SetSomewhere}
pub use Rattle.deck9.specs.declared.effect.Effect.{Effect}
pub use Rattle.deck9.specs.declared.knowledge.Known.{Known}
pub use Rattle.deck9.specs.declared.knowledge.KnownEntry.{KnownEntry}
pub use Rattle.deck9.specs.declared.mode.Mode.{Mode}
pub use Rattle.deck9.specs.declared.mode.Mode.TheVariants.{Cued, Eject, FastForward, Jog, Play, Rec, Rewind, Shuttle, Stop, Var}
pub use Rattle.deck9.specs.declared.mode_set.ModeSet.{ModeSet}
pub use Rattle.deck9.specs.declared.sense.Sense.{Sense}
pub use Rattle.deck9.specs.declared.state.Entry.{Entry}
pub use Rattle.deck9.specs.declared.state.Entry.TheVariants.{At, Clear}
pub use Rattle.deck9.specs.declared.profile.Profile.{Profile}
pub use Rattle.deck9.specs.declared.state.Hands.{Hands}
pub use Rattle.tc25.specs.declared.rate.Rate.{Rate}
pub use Rattle.deck9.specs.declared.state.Register.{Register}
pub use Rattle.deck9.specs.declared.state.Register.TheVariants.{RegAudioIn, RegAudioOut, RegIn, RegOut}
pub use Rattle.deck9.specs.declared.state.State.{State}
pub use Rattle.deck9.specs.declared.status.RegistersSet.{RegistersSet}
pub use Rattle.deck9.specs.declared.status.Status.{Status}
pub use Rattle.std.specs.Prelude.{[], Bool, false, List, None, not, Option, option_map, Some, true, ℕ}
pub use Rattle.tc25.specs.Day.{day, next_frame, prev_frame, time_of}
pub use Rattle.sets25.specs.Times.{begin_count, BelowDay, every_time, image, just, just_of, Times, with_time}
pub use Rattle.track9.specs.Presets.{count_of, Presets, presets_after, with_command, with_one}
pub use Rattle.track9.specs.Tracker.{Allows, Entries, entries_of, has_pair, in_local, InPart, Part, Possible, shown_with, States, Tracked, Halves}
pub use Rattle.track9.specs.declared.pattern.Pattern.{Pattern}
pub use Rattle.track9.specs.declared.pairs.Pair.{Pair}
unfoldable pub use Rattle.sets25.specs.Times.{span_count}
