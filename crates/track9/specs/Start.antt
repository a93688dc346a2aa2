-- The states that a deck may start from, where some fields are known.
use Rattle.std.specs.Prelude.{◌≡◌, Option, Some, None, ⊤}
use Rattle.deck9.specs.declared.state.State.{State}
use Rattle.track9.specs.declared.start.Start.{Start}

-- a field is as it is known, or anything where it is not
abbrev pub Is : {A : Type 0} → Option A → A → Type 0
Is None x = ⊤
Is (Some y) x = x ≡ y

-- a state has what is known of it
pub record StartsFrom (k : Start) (s : State) : Type 0 where
  pub goal : Is k.goal s.goal
  pub shown : Is k.shown s.shown
  pub ins : Is k.ins s.ins
  pub outs : Is k.outs s.outs
  pub ains : Is k.ains s.ains
  pub aouts : Is k.aouts s.aouts
  pub local : Is k.local s.local
