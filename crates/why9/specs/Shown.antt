-- What the deck could show when it gave the last of some replies.
use Rattle.std.specs.Prelude.{◌≡◌, ◌<◌, ◌^◌, ◌↔◌, true, List, [], ◌∷◌, ◌++◌}
use Rattle.block9.specs.declared.exchange.Exchange.{Exchange}
use Rattle.deck9.specs.declared.knowledge.Knowledge.{Knowledge}
use Rattle.deck9.specs.declared.mode.Mode.{Mode}
use Rattle.deck9.specs.declared.mode_set.ModeSet.{ModeSet}
use Rattle.deck9.specs.declared.profile.Profile.{Profile}
use Rattle.deck9.specs.declared.state.State.{State}
use Rattle.deck9.specs.Drift.{Drift}
use Rattle.deck9.specs.Going.{on_at_first}
use Rattle.deck9.specs.Knowledge.{IsKnowledge}
use Rattle.deck9.specs.ModeSet.{has}
use Rattle.deck9.specs.Run.{Ends, on_through}

-- after these exchanges and a drift the deck could be in this state
abbrev pub CouldBe : Profile → List Exchange → State → Type 0
CouldBe profile exchanges t = (s : State) × Ends profile exchanges s × Drift profile (on_through profile (on_at_first profile.deck) exchanges) s t

-- what was known of the deck when it gave the last of these replies, and the modes that it could then show, the ten alone
pub record CouldShow (profile : Profile) (exchanges : List Exchange) (known : Knowledge) (shown : ModeSet) : Type 0 where
  pub before : List Exchange
  pub last : Exchange
  pub split : exchanges ≡ before ++ last ∷ []
  pub knows : IsKnowledge (CouldBe profile before) known
  pub ten : shown.0 < 2 ^ 10
  pub shows : (m : Mode) → (has shown.0 m ≡ true) ↔ ((s : State) × CouldBe profile before s × (s.shown ≡ m))
