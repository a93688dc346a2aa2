-- Where exchanges lead that a tracker takes in turn.
use Rattle.std.specs.Prelude.{◌↔◌, ◌≡◌, [], ◌∷◌, true, List}
use Rattle.block9.specs.declared.exchange.Exchange.{Exchange}
use Rattle.deck9.specs.declared.profile.Profile.{Profile}
use Rattle.deck9.specs.declared.state.State.{State}
use Rattle.deck9.specs.declared.going.Going.{Going}
use Rattle.deck9.specs.Going.{goes_on, on_at_first}
use Rattle.deck9.specs.Run.{Ends, on_through}
use Rattle.deck9.specs.Step.{Goes}
use Rattle.track9.specs.Tracker.{Possible, Tracked}
use Rattle.track9.specs.declared.following.Lasting.{Lasting}
use Rattle.track9.specs.declared.following.Lasting.TheVariants.{UntilEnded, Throughout}

-- what may be going on after an exchange: what that leaves, or all that went on before it
abbrev pub left_on : Lasting → Profile → Exchange → Going → Going
left_on UntilEnded profile e on = goes_on profile true e on
left_on Throughout profile e on = on

-- the same after some exchanges
abbrev pub left_through : Lasting → Profile → Going → List Exchange → Going
left_through UntilEnded profile on es = on_through profile on es
left_through Throughout profile on es = on

-- from one of the states X, where this may be going on, these exchanges lead to the state t
abbrev pub Leads : Lasting → Profile → Going → (State → Type 0) → List Exchange → State → Type 0
Leads lasting profile on X [] t = X t
Leads lasting profile on X (e ∷ es) t = Leads lasting profile (left_on lasting profile e on) (λ u. (s : State) × X s × Goes profile on e s u) es t

-- from one of the states that the first tracker keeps
abbrev pub LeadsFrom : Lasting → Tracked → List Exchange → State → Type 0
LeadsFrom lasting first es t = Leads lasting first.profile first.going (Possible first.states) es t

-- a tracker keeps exactly those to which these exchanges lead
pub record FollowsFrom (lasting : Lasting) (first : Tracked) (es : List Exchange) (t : Tracked) : Type 0 where
  pub states : (s : State) → Possible t.states s ↔ LeadsFrom lasting first es s
  pub profile : t.profile ≡ first.profile
  pub going : t.going ≡ left_through lasting first.profile first.going es

-- a tracker keeps exactly the states that the runs of these exchanges end in
pub record KeepsEnds (p : Profile) (es : List Exchange) (t : Tracked) : Type 0 where
  pub states : (s : State) → Possible t.states s ↔ Ends p es s
  pub profile : t.profile ≡ p
  pub going : t.going ≡ on_through p (on_at_first p.deck) es
