-- The names from elsewhere that the proofs of this crate cite, passed on from one place. Declares nothing.
pub use Rattle.block9.specs.declared.exchange.Exchange.{Exchange}
pub use Rattle.deck9.proofs.DriftLemmas.{drift_from_pairs, kept_valid, pairs_from_drift}
pub use Rattle.deck9.proofs.ModeLemmas.{is_mode-same}
pub use Rattle.deck9.proofs.ModeSetLemmas.{all_has, any_mode, find_mode, has-and, has-or, just_has, just_mode, mode_just, mode_self, mode_some, nothing_has}
pub use Rattle.deck9.proofs.ModeSetLemmas.{some_mode}
pub use Rattle.deck9.proofs.RunLemmas.{ends_more, ends_none, some_end}
pub use Rattle.deck9.specs.Mode.{every_mode}
pub use Rattle.deck9.specs.Knowledge.{IsKnowledge, IsKnown, IsKnownEntry}
pub use Rattle.deck9.specs.Run.{Ends, HasRun}
pub use Rattle.deck9.specs.declared.knowledge.Knowledge.{Knowledge}
pub use Rattle.sets25.proofs.CountLemmas.{begin_count-empty, begin_count-every_time, begin_count-insert, begin_count-just, begin_count-next, begin_count-prev}
pub use Rattle.sets25.proofs.CountLemmas.{begin_count-span_count, begin_count-widened_next, begin_count-widened_prev, contains-remove_nat, span_count-begin_count}
pub use Rattle.sets25.proofs.CountLemmas.{span_count-in_day}
pub use Rattle.sets25.proofs.TimesLemmas.{contains-insert_nat, contains-items_nat, contains-just, image_from, image_to, same_test, same_times}
pub use Rattle.sets25.specs.Working.TimesWhere.{contains-every_time, contains-retain_nat}
pub use Rattle.std.proofs.Common.{[], ap, arith, bit_and, bit_or, Bool, false, IfNone, IfSome, if◌then◌else◌, inl, inr, IsTrue, List, max, nat_eq, nat_lt, None, not, Option, option_map}
pub use Rattle.std.proofs.Common.{get_or, length, refl, rules, Some, subst, sym, take, true, ℕ, ◌&&◌, ◌++◌, ◌+◌, ◌<◌, ◌||◌, ◌↔◌, ◌∙◌, ◌∷◌, ◌≡◌, ◌≢◌, ◌≤◌, ◌⊎◌}
pub use Rattle.std.proofs.Math.Bool.{and-false, and-true, or-false, or-true, or_assoc}
pub use Rattle.std.proofs.Math.Nat.{max-zero}
pub use Rattle.std.proofs.lemmas.Bool.{and_from, and_parts, cond_both, eqb-true, false_from_ne_true, false≢true, ltb-true, not-true, or_cases, or_left}
pub use Rattle.std.proofs.lemmas.Bool.{true_from_ne_false}
pub use Rattle.std.proofs.lemmas.Bool.Decides.{nat_tests}
pub use Rattle.std.proofs.lemmas.List.{append-nil, append_assoc, take_all, take_more}
pub use Rattle.std.proofs.lemmas.Option.{IfSome_then}
pub use Rattle.std.proofs.lemmas.Result.{on_ok_weaker}
pub use Rattle.std.specs.Cmp.{nat_cmp_total}
pub use Rattle.std.specs.List.{list_any}
pub use Rattle.std.specs.Ordering.{nat_cmp}
pub use Rattle.tc25.proofs.DayLemmas.{given_reads, read_given}
pub use Rattle.track9.specs.Presets.{AreTimes, IsSpanCount, one_more}
pub use Rattle.track9.specs.Tracker.{IsIn}
pub use Rattle.track9.specs.Working.Pattern.{any_goal, any_panel, ComesTo, DoesOrIgnores, entry_before, Fits, forgotten_before, Is, is_as_wanted, IsIgnored, IsPattern, just_state, LeadsTo, PairRunsTo}
pub use Rattle.track9.specs.Working.Pattern.{panel_before, pattern_before, RunsTo, wanted_before, wanted_of, with_wanted}
pub use Rattle.track9.specs.Working.Deck.{Agrees, Allows, AreReached, AreSet, Pattern, At, Becomes, begin_count, BelowDay, bit_of, Block, both, CanPass, Change, Clear, Command, count_of}
pub use Rattle.deck9.specs.Drift.{ComesToShow, StaysOrLost}
pub use Rattle.deck9.specs.Going.{goes_on, may_lose, on_at_first}
pub use Rattle.track9.specs.Working.Deck.{way_of, Deck, Forgotten}
pub use Rattle.track9.specs.Working.Deck.{day, Does, done, Drift, Effect, effect_of, either, Entries, entries_of, Entry, entry_of, every_time, Exchanges, Hands, has}
pub use Rattle.track9.specs.Working.Deck.{has_pair, ignored, in_local, InPart, is_mode, is_nak, is_set, is_some, IsEntry, IsFirst, IsState}
pub use Rattle.track9.specs.Working.Deck.{just, just_of, KeepsPanel, KeepsRest, Known, KnownEntry, KnowsModes, Mode, modes, ModeSet, moved_entry, Next, next_frame}
pub use Rattle.track9.specs.Working.Deck.{PairReaches, panel_switched, Part, Passes, Possible, Presets, presets_after, Prev, prev_frame, Profile, Rate, Recall, refused, RegAudioIn, RegAudioOut, RegIn}
pub use Rattle.track9.specs.Working.Deck.{Register, RegistersSet, RegOut, Reset, Sense, sense_of, shown_by, is_own, SetAt, SetSomewhere, shown_with, Shows, ShowsStatus, State, States, Status, DeckStep, Stop, Tells}
pub use Rattle.track9.specs.Working.Deck.{time_of, Times, Tracked, Halves, way, with_command, with_entry, with_time}
unfoldable pub use Rattle.track9.specs.Working.Deck.{span_count}
pub use Rattle.track9.specs.Working.Deed.{Acts, counted, counts_after, deed_exchanged, deed_passed, deed_showing, DoesOrStays, Gives, is_frugal_deed, is_wide, no_deed}
pub use Rattle.track9.specs.declared.deed.Deed.{Deed}
pub use Rattle.track9.specs.Working.Entries.{agreeing, all_entries, is_nil, lost_entries, no_entries, set_entries, some_entry}
pub use Rattle.track9.specs.Working.Knowing.{states_goals, join_options, known_fact, KnowsOf, PartKnows, states_shown, HalvesKnow}
pub use Rattle.track9.specs.Working.Pairs.{all_pairs, by_goal, drifted, drifted_with, goal_if_shown, goals_of, all_shown, gone, halted, joined, kept_goal, masked, pairs_of, shown_if}
pub use Rattle.track9.specs.Working.Pairs.{some_pair}
pub use Rattle.track9.specs.Working.Parts.{all_states, changed_entries, changed_part, drifted_part, forgotten_part, gone_pairs, gone_part, HasState, lost_part, kept_or_gone, kept_or_gone_part}
pub use Rattle.track9.specs.Working.Parts.{part_remains, masked_part, no_states, put_settled, part_rate, reported_part, sensed_part, set_where, settled, status_part, where_remains, Whole, with_entries}
pub use Rattle.track9.specs.Working.Parts.{with_pairs}
pub use Rattle.track9.specs.Working.States.{after_panel, all_drifted, all_forgotten, all_or_none, AllLeadOn, AreBelow, AreFew, AreWhole, DriftsAndGoes}
pub use Rattle.track9.specs.Working.States.{either_panel, first_states, Follows, hands_by, hands_of, HasEffect, InHalves, remains_with_panel_on, AreTracked}
pub use Rattle.track9.specs.Working.States.{LeadsOn, map_halves, on_halves, motion_forgotten, registers_forgotten, panel_passed, part_of, profile_of, states_rate, halves_rate, states_remain, halves_remain, switched, Taken, TakenQuietly, halves_changed, halves_drifted, halves_gone, halves_lost, halves_moved, untouched, halves_kept_or_gone}
pub use Rattle.track9.specs.Following.{FollowsFrom, KeepsEnds, Leads, LeadsFrom, left_on, left_through}
pub use Rattle.track9.specs.Start.{StartsFrom}
pub use Rattle.track9.specs.Working.Starts.{entries_known, modes_known, part_from, part_known, states_from, halves_from}
pub use Rattle.track9.specs.declared.start.Start.{Start}
pub use Rattle.track9.specs.Working.Deck.{Forgets, forgotten_beside, forgotten_with, Goes, head_of}
pub use Rattle.track9.specs.Working.States.{AreForgotten, halves_forgotten}
pub use Rattle.deck9.specs.declared.deck.Forgotten.TheVariants.{Everything, Motion, Nothing, Registers, Tape}
pub use Rattle.track9.specs.Working.States.{halves_of, halves_sensed, halves_status, HalvesBelow, HalvesFew, HalvesWhole}
