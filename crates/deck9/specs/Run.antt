-- Runs of the deck, and the states that they can end in.
use Rattle.std.specs.Prelude.{◌≡◌, ⊤, true, List, [], ◌∷◌}
use Rattle.block9.specs.declared.exchange.Exchange.{Exchange}
use Rattle.deck9.specs.declared.going.Going.{Going}
use Rattle.deck9.specs.declared.profile.Profile.{Profile}
use Rattle.deck9.specs.declared.state.State.{State}
use Rattle.deck9.specs.Going.{goes_on, on_at_first}
use Rattle.deck9.specs.State.{IsFirst}
use Rattle.deck9.specs.Step.{Goes}

-- from s, where this may be going on, these are the states after each of the exchanges
abbrev pub IsRunFrom : Profile → Going → State → List Exchange → List State → Type 0
IsRunFrom p on s [] [] = ⊤
IsRunFrom p on s (e ∷ es) (t ∷ ts) = Goes p on e s t × IsRunFrom p (goes_on p true e on) t es ts
IsRunFrom p on s _ _ = ⊥

-- from some first state, these are the states after each of the exchanges: as many as there are exchanges
abbrev pub IsRun : Profile → List Exchange → List State → Type 0
IsRun p es ts = (first : State) × IsFirst p first × IsRunFrom p (on_at_first p.deck) first es ts

-- what may be going on after these exchanges, where this went on before them
abbrev pub on_through : Profile → Going → List Exchange → Going
on_through p on [] = on
on_through p on (e ∷ es) = on_through p (goes_on p true e on) es

-- the state after the last exchange, and s where there was none
abbrev pub last_state : State → List State → State
last_state s [] = s
last_state s (t ∷ ts) = last_state t ts

-- the last states of the runs of these exchanges
pub record Ends (p : Profile) (es : List Exchange) (t : State) : Type 0 where
  pub first : State
  pub is_first : IsFirst p first
  pub after : List State
  pub is_run : IsRunFrom p (on_at_first p.deck) first es after
  pub is_last : last_state first after ≡ t

-- there is a run of these exchanges
pub record HasRun (p : Profile) (es : List Exchange) : Type 0 where
  pub first : State
  pub is_first : IsFirst p first
  pub after : List State
  pub is_run : IsRunFrom p (on_at_first p.deck) first es after
