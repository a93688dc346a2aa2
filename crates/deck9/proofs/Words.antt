-- The names from elsewhere that the proofs of this crate cite, passed on from one place. Declares nothing.
pub use Rattle.block9.specs.Command.{is_nak}
pub use Rattle.block9.specs.Replies.{is_own}
unfoldable pub use Rattle.block9.specs.Command.{fits, is_reply_time_valid, name_of}
pub use Rattle.block9.specs.declared.block.Block.{Block}
pub use Rattle.block9.specs.declared.command.Command.{Command}
pub use Rattle.block9.specs.declared.exchange.Exchange.{Exchange}
pub use Rattle.deck9.specs.Contradict.{behind_first, CanPass, forgotten_if, HasBelieving, IsBelievingFrom, MayDo, MayGo}
pub use Rattle.deck9.specs.Drift.{arrives, ComesToShow, Drift, DriftsTo, halts, handled, KeepsRest, loses, Move, Moves, PairReaches, passes, runs, StaysOrLost}
pub use Rattle.deck9.specs.Going.{after_transport, all_with, goes_on, left_after, left_by, may_lose, more_lost, named_on, nothing_on, on_after, on_at_first, together, with_named}
pub use Rattle.deck9.specs.declared.going.Going.{Going}
pub use Rattle.deck9.specs.declared.going.Lost.{Lost}
pub use Rattle.deck9.specs.Effect.{Becomes, Does, effect_of, Forgets, KeepsPanel, listed_effect, moved_entry, switched, unlisted_effect, with_forgotten}
pub use Rattle.deck9.specs.Laws.{AreAnswered, ForgetsNoMore, ForgetsNothingBeside, IsRightReply, MayReply, SetsInDay, ShowJust}
pub use Rattle.deck9.specs.Local.{is_of_goal_or_register, may_ignore}
pub use Rattle.deck9.specs.Mode.{every_mode, index_of, is_mode, is_one_of, on_the_way}
pub use Rattle.deck9.specs.ModeCalls.{is_some}
pub use Rattle.deck9.specs.ModeSet.{bit_of, either, has, modes, of_modes}
pub use Rattle.deck9.specs.Run.{Ends, HasRun, IsRun, IsRunFrom, last_state, on_through}
pub use Rattle.deck9.specs.Shows.{Agrees, sense_of, Shows, shown_by, ShowsStatus, Tells}
pub use Rattle.deck9.specs.State.{entry_of, IsEntry, IsFirst, IsState, MayBeOn, with_entry}
pub use Rattle.deck9.specs.Status.{datum, may_show, status_of}
pub use Rattle.deck9.specs.Step.{AreReached, DeckStep, done, Exchanges, forgotten_with, Goes, ignored, refused}
pub use Rattle.deck9.specs.Working.{before_forgetting, before_shift, Begins, between, cleared, DriftsAndSteps, lost_entry, MovesAndSteps, PassesOne, PassesTo, some_change, some_outcome, Steps, StepsFromSome, with_losses}
pub use Rattle.deck9.specs.declared.effect.Change.{Change}
pub use Rattle.deck9.specs.declared.effect.Change.TheVariants.{Next, Prev, Recall, Reset, SetAt, SetSomewhere}
pub use Rattle.deck9.specs.declared.effect.Effect.{Effect}
pub use Rattle.deck9.specs.declared.mode.Mode.{Mode}
pub use Rattle.deck9.specs.declared.mode.Mode.TheVariants.{Cued, Eject, FastForward, Jog, Play, Rec, Rewind, Shuttle, Stop, Var}
pub use Rattle.deck9.specs.declared.mode_set.ModeSet.{ModeSet}
pub use Rattle.deck9.specs.declared.sense.Sense.{Sense}
pub use Rattle.deck9.specs.declared.state.Entry.{Entry}
pub use Rattle.deck9.specs.declared.state.Entry.TheVariants.{At, Clear}
pub use Rattle.deck9.specs.declared.state.Hands.{Hands}
pub use Rattle.deck9.specs.declared.state.Register.{Register}
pub use Rattle.deck9.specs.declared.state.Register.TheVariants.{RegAudioIn, RegAudioOut, RegIn, RegOut}
pub use Rattle.deck9.specs.declared.state.State.{State}
pub use Rattle.std.proofs.Common.{[], ap, arith, bit_and, bit_or, Bool, drop, false, if◌then◌else◌, inl, inr, length, List, mod-lt, None, not, Option, refl, rules, Some, subst, suc, sym}
pub use Rattle.std.proofs.Common.{true, ℕ, ◌&&◌, ◌*◌, ◌++◌, ◌+◌, ◌-◌, ◌/◌, ◌<◌, ◌==◌, ◌^◌, ◌||◌, ◌↔◌, ◌∙◌, ◌∷◌, ◌≡◌, ◌≢◌, ◌≤◌, ◌⊎◌}
pub use Rattle.std.proofs.Math.Bool.{and-true, or-true}
pub use Rattle.std.proofs.lemmas.Bool.{and_from, and_parts, both_ways, cases_Bool, cases_eq, cond_both, eq-eqb, eqb-true, false_from_ne_true, false≢true, or_cases, true_from_ne_false}
pub use Rattle.std.proofs.lemmas.Bool.Decides.{nat_tests}
pub use Rattle.std.proofs.lemmas.Grind.{common_steps}
pub use Rattle.std.proofs.lemmas.List.Elements.{All-cons, All-head, All-nil, All-tail}
pub use Rattle.std.proofs.lemmas.Nat.{and_mask, pow_pos}
pub use Rattle.std.proofs.lemmas.Nat.Bits.{and_pow, bit_at-lt, bit_at-pow_other, bit_at-pow_same, bit_at-zero, bit_at_and, bit_at_or, same_from_bits_below}
pub use Rattle.std.proofs.lemmas.Option.{slice_get_past}
pub use Rattle.std.specs.Cmp.{both_ways as same_test}
pub use Rattle.std.specs.Int.{bit_at}
pub use Rattle.std.specs.Iterator.Adapters.{zip_first, zip_second}
pub use Rattle.std.specs.List.{All, filter, list_all, list_any}
pub use Rattle.std.specs.Slice.Iter.{iter_rest}
pub use Rattle.tc25.proofs.DayLemmas.{bytes_read, given_reads, read_given}
pub use Rattle.tc25.specs.Day.{bcd, bytes_of, day, frames_of, hours_of, label_of, minutes_of, next_frame, prev_frame, seconds_of}
unfoldable pub use Rattle.tc25.specs.Day.{time_of}
pub use Rattle.block9.specs.Block.{head_of}
pub use Rattle.deck9.specs.Deck.{forgotten_at, forgotten_beside, goals_at, way_of}
pub use Rattle.deck9.specs.declared.deck.Deck.{Deck}
pub use Rattle.deck9.specs.declared.deck.Forgotten.{Forgotten}
pub use Rattle.deck9.specs.declared.deck.Forgotten.TheVariants.{Everything, Motion, Nothing, Registers, Tape}
pub use Rattle.deck9.specs.declared.profile.Profile.{Profile}
pub use Rattle.tc25.specs.declared.rate.Rate.{Rate}
