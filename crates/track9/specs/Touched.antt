-- What a move of a hand leaves that keeps some fields.
use Rattle.std.specs.Prelude.{◌≡◌, Bool, true, false, if◌then◌else◌, not, ⊤}
use Rattle.deck9.specs.State.{IsState}
use Rattle.deck9.specs.declared.state.State.{State}
use Rattle.tc25.specs.declared.rate.Rate.{Rate}
use Rattle.track9.specs.declared.kept.Kept.{Kept}

-- what is kept is as it was, and what is not may be anything
abbrev pub StaysIf : {A : Type 0} → Bool → A → A → Type 0
StaysIf true x y = y ≡ x
StaysIf false x y = ⊤

-- from the state s to t: LOCAL is the other way where it is not kept, and the panel stays
pub record Touches (rate : Rate) (k : Kept) (s t : State) : Type 0 where
  pub goal : StaysIf k.goal s.goal t.goal
  pub shown : StaysIf k.shown s.shown t.shown
  pub ins : StaysIf k.ins s.ins t.ins
  pub outs : StaysIf k.outs s.outs t.outs
  pub ains : StaysIf k.ains s.ains t.ains
  pub aouts : StaysIf k.aouts s.aouts t.aouts
  pub local : t.local ≡ (if k.local then s.local else not s.local)
  pub panel : t.panel ≡ s.panel
  -- what is new is of the day
  pub valid : IsState rate t
