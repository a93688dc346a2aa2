-- What the clauses of the way back cite, from the end of a capture to a run of the deck.
use Rattle.std.specs.Prelude.{[], length, List, None, Option, reverse, slice_get, Some, take, ℕ, ◌++◌, ◌-◌, ◌<◌, ◌∷◌, ◌≡◌, ◌≤◌}
use Rattle.std.specs.List.{All, AllPairs}
use Rattle.std.proofs.Common.{slice_range}
use Rattle.block9.specs.declared.exchange.Exchange.{Exchange}
use Rattle.deck9.specs.declared.going.Going.{Going}
use Rattle.deck9.specs.declared.profile.Profile.{Profile}
use Rattle.deck9.specs.declared.state.State.{State}
use Rattle.deck9.specs.Run.{IsRunFrom, last_state}
use Rattle.deck9.specs.Step.{Goes}
use Rattle.track9.specs.declared.following.Lasting.{Lasting}
use Rattle.track9.specs.declared.following.Lasting.TheVariants.{UntilEnded}
use Rattle.track9.specs.Following.{FollowsFrom}
use Rattle.track9.specs.Tracker.{Possible, Tracked}
use Rattle.run9.specs.declared.way_back.Mark.{Mark}

-- the state before the exchange is one that the tracker keeps, and the exchange leads from it to this state
abbrev pub ComesFrom : Tracked → Exchange → State → State → Type 0
ComesFrom t e state s = Possible t.states s × Goes t.profile t.going e s state

abbrev pub CanComeFrom : Tracked → Exchange → State → Type 0
CanComeFrom t e state = (s : State) × ComesFrom t e state s

-- the last of these marks, if there is one
abbrev pub last_mark : List Mark → Option Mark
last_mark marks = slice_get marks (length marks - 1)

-- how many exchanges come before it, and none where there is none
abbrev pub place_of : Option Mark → ℕ
place_of None = 0
place_of (Some m) = m.place

-- its tracker, or the first one
abbrev pub tracked_by : Tracked → Option Mark → Tracked
tracked_by first None = first
tracked_by first (Some m) = m.tracker

-- each of these trackers keeps the states to which the exchanges before it lead, and they are in order, before this place
pub record AreMarks (lasting : Lasting) (first : Tracked) (es : List Exchange) (at : ℕ) (marks : List Mark) : Type 0 where
  pub follow : All (λ m. FollowsFrom lasting first (take m.place es) m.tracker) marks
  pub ascend : AllPairs (λ m n. m.place < n.place) marks
  pub within : All (λ m. m.place < at) marks

-- a mark after the tracker at a place, up to this one
pub record IsNextMark (lasting : Lasting) (place : ℕ) (t : Tracked) (es : List Exchange) (at : ℕ) (m : Mark) : Type 0 where
  pub on : place < m.place
  pub within : m.place ≤ at
  pub follows : FollowsFrom lasting t (slice_range es place m.place) m.tracker

-- the mark after others has taken these exchanges
pub record LastMarkFollows (lasting : Lasting) (before : List Mark) (m : Mark) (es : List Exchange) (marks : List Mark) : Type 0 where
  pub after : Mark
  pub same : marks ≡ before ++ after ∷ []
  pub place : after.place ≡ m.place
  pub follows : FollowsFrom lasting m.tracker es after.tracker

-- these are the states after the exchanges on the way from s to `end`, and they were put after others, the last one first. They are
-- those of a run where what the deck does by itself lasts until an exchange ends it
pub record GoesBack (lasting : Lasting) (profile : Profile) (on : Going) (X : State → Type 0) (es : List Exchange) (end : State) (old new : List State) (s : State) : Type 0 where
  pub from : X s
  pub after : List State
  pub is_run : lasting ≡ UntilEnded → IsRunFrom profile on s es after
  pub is_end : last_state s after ≡ end
  pub put : new ≡ old ++ reverse after
