-- What the clauses of the search for a run cite.
pub mod Codes
use Rattle.std.specs.Prelude.{◌≡◌, Bool, true, if◌then◌else◌}
use Rattle.block9.specs.declared.exchange.Exchange.{Exchange}
use Rattle.tc25.specs.Day.{next_frame, prev_frame}
use Rattle.tc25.specs.declared.rate.Rate.{Rate}
use Rattle.deck9.specs.declared.deck.Forgotten.{Forgotten}
use Rattle.deck9.specs.declared.deck.Forgotten.TheVariants as forgotten
use Rattle.deck9.specs.declared.effect.Change.{Change}
use Rattle.deck9.specs.declared.effect.Change.TheVariants.{Next, Prev, SetAt, SetSomewhere}
use Rattle.deck9.specs.declared.effect.Effect.{Effect}
use Rattle.deck9.specs.declared.effect.Effect.TheVariants as effect
use Rattle.deck9.specs.declared.going.Going.{Going}
use Rattle.deck9.specs.declared.mode.Mode.{Mode}
use Rattle.deck9.specs.declared.state.Entry.{Entry}
use Rattle.deck9.specs.declared.state.Entry.TheVariants.{At, Clear}
use Rattle.deck9.specs.declared.profile.Profile.{Profile}
use Rattle.deck9.specs.declared.state.Register.{Register}
use Rattle.deck9.specs.declared.state.Register.TheVariants.{RegIn, RegOut, RegAudioIn, RegAudioOut}
use Rattle.deck9.specs.declared.state.State.{State}
use Rattle.deck9.specs.Deck.{way_of}
use Rattle.deck9.specs.Drift.{KeepsRest, PairReaches}
use Rattle.deck9.specs.Effect.{Forgets, moved_entry, switched, with_forgotten}
use Rattle.deck9.specs.Going.{may_lose, on_at_first}
use Rattle.deck9.specs.ModeSet.{either, has}
use Rattle.deck9.specs.State.{IsFirst, IsState, entry_of, with_entry}
use Rattle.deck9.specs.Step.{DeckStep, forgotten_with, Goes}

-- what an exchange does, without the drift before it: the step, and what is forgotten besides
abbrev pub Steps : Profile → Exchange → State → State → Type 0
Steps p e d t = (u : State) × DeckStep p e.command e.reply d u × Forgets p (forgotten_with p.deck e) u t

-- a mode on the way to the goal, or one that may be going on, becomes the shown one, and then comes the step
abbrev pub PassesTo : Profile → Going → Exchange → State → State → Mode → Type 0
PassesTo p on e s t m = (has (either (way_of p.deck s.goal) on.modes).0 m ≡ true) × Steps p e (record s { shown = m }) t

-- the same of some mode
abbrev pub PassesOne : Profile → Going → Exchange → State → State → Type 0
PassesOne p on e s t = (m : Mode) × PassesTo p on e s t m

-- the mechanics drift, registers may be lost, and then comes the step
abbrev pub DriftsAndSteps : Profile → Going → Exchange → State → State → Type 0
DriftsAndSteps p on e s t = (d : State) × KeepsRest on s d × PairReaches p.deck on s.goal s.shown d.goal d.shown × Steps p e d t

-- the mechanics drift, and then comes the step, where nothing more of the registers is lost
abbrev pub MovesAndSteps : Profile → Going → Exchange → State → State → Type 0
MovesAndSteps p on e s t = (goal shown : Mode) × PairReaches p.deck on s.goal s.shown goal shown × Steps p e (record s { goal = goal; shown = shown }) t

-- an entry as it stands right before a step that leads to this one: lost, where it may be, and is clear behind the step
abbrev pub lost_entry : Going → Register → Entry → Entry → Entry
lost_entry on r Clear old = if may_lose on.lost r then Clear else old
lost_entry on r (At t) old = old

-- a state before such a step, without what was lost of its registers
abbrev pub with_losses : Going → State → State → State
with_losses on after s = record s {
  ins = lost_entry on RegIn after.ins s.ins;
  outs = lost_entry on RegOut after.outs s.outs;
  ains = lost_entry on RegAudioIn after.ains s.ains;
  aouts = lost_entry on RegAudioOut after.aouts s.aouts;
}

-- the step comes from some state with the panel on or off
abbrev pub StepsFromSome : Profile → Exchange → Bool → State → Type 0
StepsFromSome p e on t = (d : State) × IsState p.rate d × (d.panel ≡ on) × Steps p e d t

-- a first exchange: from some first state
abbrev pub Begins : Profile → Exchange → State → Type 0
Begins p e t = (s : State) × IsFirst p s × Goes p (on_at_first p.deck) e s t

-- the state from which a shift leads to this one; the state itself where the effect is no shift
abbrev pub before_shift : Rate → Effect → State → State
before_shift rate (effect.Change r Next) t = with_entry r (moved_entry (prev_frame rate) (entry_of r t)) t
before_shift rate (effect.Change r Prev) t = with_entry r (moved_entry (next_frame rate) (entry_of r t)) t
before_shift rate _ t = t

-- the state with local on where that is forgotten too: such a deck may have ignored the command
abbrev pub before_forgetting : Forgotten → State → State
before_forgetting forgotten.Everything t = record t { local = true }
before_forgetting _ t = t

-- ---- what lies between a step and what is forgotten after it

-- one of the entries that a change may make of one
abbrev pub some_change : Rate → Change → Entry → Entry
some_change rate SetSomewhere old = At 0
some_change rate (SetAt t) old = At t
some_change rate Next old = moved_entry (next_frame rate) old
some_change rate Prev old = moved_entry (prev_frame rate) old
some_change rate _ old = Clear

-- nothing in the registers
abbrev pub cleared : State → State
cleared s = record s { ins = Clear; outs = Clear; ains = Clear; aouts = Clear }

-- one of the states that an effect may make of one
abbrev pub some_outcome : Profile → Effect → State → State
some_outcome p (effect.Go g) s = record s { goal = g }
some_outcome p (effect.Change r c) s = with_entry r (some_change p.rate c (entry_of r s)) s
some_outcome p (effect.Panel on) s = switched p.hands on s
some_outcome p (effect.Forget f) s = with_forgotten f (cleared s) s
some_outcome p _ s = s

-- a state between the step and what is forgotten after it: where there is one, this is one, or the state before the step is
abbrev pub between : Profile → Effect → Forgotten → State → State → State
between p f g d t = with_forgotten g (some_outcome p f d) t
