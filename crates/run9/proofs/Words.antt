-- The names from elsewhere that the proofs of this crate cite, passed on from one place. Declares nothing.
pub use Rattle.block9.specs.declared.exchange.Exchange.{Exchange}
pub use Rattle.deck9.specs.Run.{IsRun, IsRunFrom}
pub use Rattle.deck9.specs.State.{IsFirst}
pub use Rattle.deck9.specs.Step.{Goes}
pub use Rattle.deck9.specs.declared.profile.Profile.{Profile}
pub use Rattle.deck9.specs.declared.state.State.{State}
pub use Rattle.run9.specs.Working.{AreMarks, GoesBack, LastMarkFollows, IsNextMark, last_mark, place_of, tracked_by}
pub use Rattle.run9.specs.declared.way_back.Mark.{Mark}
pub use Rattle.std.proofs.Common.{[], ap, arith, drop, get_or, inl, inr, length, List, None, Option, refl, reverse, slice_get, slice_range, Some, subst, suc, sym, take, take-add, true, ℕ}
pub use Rattle.std.proofs.Common.{◌++◌, ◌+◌, ◌-◌, ◌<◌, ◌↔◌, ◌∙◌, ◌∷◌, ◌≡◌, ◌≤◌}
pub use Rattle.std.proofs.lemmas.List.{append-nil, append_assoc, length_push, reverse-append, reverse-reverse, take_all, take_more}
pub use Rattle.std.specs.List.{All, AllPairs}
pub use Rattle.deck9.specs.Going.{goes_on, on_at_first}
pub use Rattle.deck9.specs.declared.going.Going.{Going}
pub use Rattle.track9.proofs.FollowLemmas.{follows-then, follows_ends, from-start, leads_joined, left_more, left_none}
pub use Rattle.track9.specs.Following.{FollowsFrom, LeadsFrom, left_on, left_through}
pub use Rattle.track9.specs.declared.following.Lasting.{Lasting}
pub use Rattle.track9.specs.declared.following.Lasting.TheVariants.{Throughout, UntilEnded}
pub use Rattle.track9.specs.Tracker.{Possible, Tracked}
