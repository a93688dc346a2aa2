-- The names from elsewhere that the proofs of this crate cite, passed on from one place. Declares nothing.
pub use Rattle.block9.specs.declared.exchange.Exchange.{Exchange}
pub use Rattle.block9.specs.Command.{is_nak}
pub use Rattle.deck9.proofs.DriftLemmas.{drift_join}
pub use Rattle.deck9.specs.Drift.{Drift}
pub use Rattle.deck9.specs.Effect.{Forgets}
pub use Rattle.deck9.specs.Going.{goes_on, on_at_first}
pub use Rattle.deck9.specs.Step.{DeckStep, done, forgotten_with, Goes, ignored, refused}
pub use Rattle.deck9.proofs.ContradictLemmas.{before_the_first, believing_all, believing_fewer, first_may, stays}
pub use Rattle.deck9.specs.Contradict.{behind_first, Contradict, HasBelieving, IsBelievingFrom, MayGo}
pub use Rattle.deck9.proofs.RunLemmas.{some_end}
pub use Rattle.deck9.specs.Knowledge.{IsKnowledge}
pub use Rattle.deck9.specs.ModeSet.{has}
pub use Rattle.deck9.specs.Run.{Ends}
pub use Rattle.deck9.specs.State.{IsFirst}
pub use Rattle.deck9.specs.Step.{AreReached}
pub use Rattle.deck9.specs.declared.going.Going.{Going}
pub use Rattle.deck9.specs.declared.knowledge.Knowledge.{Knowledge}
pub use Rattle.deck9.specs.declared.mode.Mode.{Mode}
pub use Rattle.deck9.specs.declared.mode_set.ModeSet.{ModeSet}
pub use Rattle.deck9.specs.declared.profile.Profile.{Profile}
pub use Rattle.deck9.specs.declared.state.Hands.{Hands}
pub use Rattle.deck9.specs.declared.state.State.{State}
pub use Rattle.std.proofs.Common.{[], ap, append_assoc, arith, Bool, drop, false, inl, inr, length, length-append, List, nat_le, nat_lt, not, refl, slice_index_or, slice_range, subst, suc, sym, take}
pub use Rattle.std.proofs.Common.{true, ℕ, ◌&&◌, ◌++◌, ◌+◌, ◌-◌, ◌<◌, ◌^◌, ◌==◌, ◌||◌, ◌↔◌, ◌∙◌, ◌∷◌, ◌≡◌, ◌≤◌, ◌⊎◌}
pub use Rattle.std.proofs.Math.Seq.{drop-cons, take-append_seam}
pub use Rattle.std.proofs.lemmas.Bool.{false≢true}
pub use Rattle.std.proofs.lemmas.Bool.Decides.{nat_tests}
pub use Rattle.std.proofs.lemmas.List.{drop-drop, length-drop, length-take-le, take-append-drop, take_more, take_rest}
pub use Rattle.std.proofs.lemmas.List.Elements.{All-head, All-nil, All-push, All-tail}
pub use Rattle.std.proofs.lemmas.List.Folds.{list_any-append}
pub use Rattle.std.proofs.lemmas.List.Quantifiers.{all_pairs_push}
pub use Rattle.std.proofs.lemmas.Result.{IfOk-weaker}
pub use Rattle.std.specs.List.{All, AllPairs}
pub use Rattle.track9.specs.Following.{KeepsEnds}
pub use Rattle.track9.specs.Tracker.{Possible, Tracked}
pub use Rattle.why9.specs.Contradiction.{BreaksAtLast, is_among, is_among_others, IsContradiction}
pub use Rattle.why9.specs.Shown.{CouldBe, CouldShow}
pub use Rattle.why9.specs.Working.{ArePassed, ArePassedTo, HasBelievingFrom, HasBelievingFromPlace, IsBetween}
