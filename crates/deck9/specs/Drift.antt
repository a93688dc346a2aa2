-- How a deck changes by itself between two exchanges.
use Rattle.std.specs.Prelude.{◌≡◌, ◌⊎◌, true, List, Option, [], ◌∷◌}
use Rattle.deck9.specs.declared.going.Going.{Going}
use Rattle.deck9.specs.declared.state.Entry.{Entry}
use Rattle.deck9.specs.declared.state.Entry.TheVariants.{Clear}
use Rattle.deck9.specs.declared.state.Register.{Register}
use Rattle.deck9.specs.Going.{may_lose}
use Rattle.deck9.specs.declared.deck.Deck.{Deck}
use Rattle.deck9.specs.declared.mode.Mode.{Mode}
use Rattle.deck9.specs.declared.mode.Mode.TheVariants.{Stop}
use Rattle.deck9.specs.declared.profile.Profile.{Profile}
use Rattle.deck9.specs.declared.state.Hands.TheVariants as hands
use Rattle.deck9.specs.declared.state.State.{State}
use Rattle.deck9.specs.Deck.{way_of}
use Rattle.deck9.specs.ModeSet.{has}
use Rattle.deck9.specs.State.{IsState, entry_of, with_entry}

-- one move of the mechanics, of what may be going on, or of a hand on the panel
pub data Move (p : Profile) (g : Going) (s t : State) : Type 0 where
  -- the shown mode becomes the goal
  arrives : t ≡ record s { shown = s.goal } → Move p g s t
  -- the shown mode becomes one on the way to the goal, also after the goal was shown
  passes : (m : Mode) → has (way_of p.deck s.goal).0 m ≡ true → t ≡ record s { shown = m } → Move p g s t
  -- where the goal is shown, both become STOP: the end of the tape, or a cassette put in
  halts : s.shown ≡ s.goal → t ≡ record s { goal = Stop; shown = Stop } → Move p g s t
  -- the shown mode becomes one that may be going on, whatever the goal
  runs : (m : Mode) → has g.modes.0 m ≡ true → t ≡ record s { shown = m } → Move p g s t
  -- a register that may be lost becomes clear
  loses : (r : Register) → may_lose g.lost r ≡ true → t ≡ with_entry r Clear s → Move p g s t
  -- where hands are allowed and the panel is on, a hand does anything but switch the panel off
  handled : p.hands ≡ hands.Allowed → s.panel ≡ true → t.panel ≡ true → IsState p.rate t → Move p g s t

-- from s to t by way of these states, each by a move from the one before
abbrev pub Moves : Profile → Going → State → List State → State → Type 0
Moves p g s [] t = t ≡ s
Moves p g s (u ∷ us) t = Move p g s u × Moves p g u us t

-- any finite number of moves, none included
abbrev pub Drift : Profile → Going → State → State → Type 0
Drift p g s t = (us : List State) × Moves p g s us t

-- ---- what a drift comes to: a law, and no further rule

-- a deck with this goal comes to show the goal, a mode on the way to it, or one that may be going on
abbrev pub ComesToShow : Option Deck → Going → Mode → Mode → Type 0
ComesToShow deck on g m = (m ≡ g) ⊎ ((has (way_of deck g).0 m ≡ true) ⊎ (has on.modes.0 m ≡ true))

-- from the goal g and the shown mode m to others: g with m, or with what a deck with this goal comes to show; STOP with what it then
-- comes to show
abbrev pub PairReaches : Option Deck → Going → Mode → Mode → Mode → Mode → Type 0
PairReaches deck on g m g' m' = ((g' ≡ g) × ((m' ≡ m) ⊎ ComesToShow deck on g m')) ⊎ ((g' ≡ Stop) × ComesToShow deck on Stop m')

-- the entry stays, or is lost
abbrev pub StaysOrLost : Going → Register → Entry → Entry → Type 0
StaysOrLost on r e f = (f ≡ e) ⊎ ((may_lose on.lost r ≡ true) × (f ≡ Clear))

-- nothing but goal and shown mode differs, and what is lost of the registers
pub record KeepsRest (on : Going) (s t : State) : Type 0 where
  pub registers : (r : Register) → StaysOrLost on r (entry_of r s) (entry_of r t)
  pub local : t.local ≡ s.local
  pub panel : t.panel ≡ s.panel

-- one of these pairs with what is left of the registers, or what a hand did
abbrev pub DriftsTo : Profile → Going → State → State → Type 0
DriftsTo p on s t =
    (KeepsRest on s t × PairReaches p.deck on s.goal s.shown t.goal t.shown) ⊎ ((p.hands ≡ hands.Allowed) × (s.panel ≡ true) × (t.panel ≡ true) × IsState p.rate t)
