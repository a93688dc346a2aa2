-- Which replies contradict one another: no deck can have given them together, whatever it answered to everything else.
use Rattle.std.specs.Prelude.{ℕ, ◌≡◌, ◌+◌, ◌⊎◌, Bool, true, false, ⊤, List, [], ◌∷◌, Option}
use Rattle.block9.specs.declared.command.Command.{Command}
use Rattle.block9.specs.declared.exchange.Exchange.{Exchange}
use Rattle.block9.specs.Block.{head_of}
use Rattle.deck9.specs.declared.deck.Deck.{Deck}
use Rattle.deck9.specs.declared.deck.Forgotten.{Forgotten}
use Rattle.deck9.specs.declared.going.Going.{Going}
use Rattle.deck9.specs.declared.profile.Profile.{Profile}
use Rattle.deck9.specs.declared.state.State.{State}
use Rattle.deck9.specs.Deck.{forgotten_beside}
use Rattle.deck9.specs.Drift.{Drift}
use Rattle.deck9.specs.Effect.{Does, effect_of, Forgets}
use Rattle.deck9.specs.Going.{goes_on, on_at_first}
use Rattle.deck9.specs.State.{IsFirst}
use Rattle.deck9.specs.Step.{DeckStep, forgotten_with}

-- what a command may do to a state where its reply is not known: nothing, or its effect
abbrev pub CanPass : Profile → Command → State → State → Type 0
CanPass p command s t = (t ≡ s) ⊎ Does p (effect_of p.deck command) s t

-- the deck drifts, and then takes a command whose reply is not known
abbrev pub Passes : Profile → Going → Command → State → State → Type 0
Passes p on command s t = (d : State) × Drift p on s d × CanPass p command d t

-- what an exchange may do after the drift: a step with its reply where that is believed, and else what its command may do
abbrev pub MayDo : Profile → Bool → Exchange → State → State → Type 0
MayDo p true e s t = DeckStep p e.command e.reply s t
MayDo p false e s t = CanPass p e.command s t

-- what is forgotten besides: after a NAK that is believed nothing, and else what the sheet names
abbrev pub forgotten_if : Bool → Option Deck → Exchange → Forgotten
forgotten_if true deck e = forgotten_with deck e
forgotten_if false deck e = forgotten_beside deck e.command (head_of e.block)

-- what an exchange may do, the drift before it and what is forgotten besides with it
abbrev pub MayGo : Profile → Going → Bool → Exchange → State → State → Type 0
MayGo p on b e s t = (d u : State) × Drift p on s d × MayDo p b e d u × Forgets p (forgotten_if b p.deck e) u t

-- the same places, counted in the list without its first exchange
abbrev pub behind_first : (ℕ → Bool) → ℕ → Bool
behind_first is_believed k = is_believed (k + 1)

-- from s, where this may be going on, these are the states after each of the exchanges in a run that believes the replies at these places
abbrev pub IsBelievingFrom : Profile → Going → (ℕ → Bool) → State → List Exchange → List State → Type 0
IsBelievingFrom p on is_believed s [] [] = ⊤
IsBelievingFrom p on is_believed s (e ∷ es) (t ∷ ts) =
    MayGo p on (is_believed 0) e s t × IsBelievingFrom p (goes_on p (is_believed 0) e on) (behind_first is_believed) t es ts
IsBelievingFrom p on is_believed s _ _ = ⊥

-- there is a run of these exchanges that believes the replies at these places, counted from 0
pub record HasBelieving (p : Profile) (is_believed : ℕ → Bool) (es : List Exchange) : Type 0 where
  pub first : State
  pub is_first : IsFirst p first
  pub after : List State
  pub is_run : IsBelievingFrom p (on_at_first p.deck) is_believed first es after

-- the replies at these places contradict one another: no run believes all of them
abbrev pub Contradict : Profile → (ℕ → Bool) → List Exchange → Type 0
Contradict p is_believed es = ¬ HasBelieving p is_believed es
