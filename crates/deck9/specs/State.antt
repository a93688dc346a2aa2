-- The states of a deck.
use Rattle.std.specs.Prelude.{◌≡◌, ◌<◌, Bool, true, false, ⊤}
use Rattle.tc25.specs.Day.{day}
use Rattle.tc25.specs.declared.rate.Rate.{Rate}
use Rattle.deck9.specs.declared.profile.Profile.{Profile}
use Rattle.deck9.specs.declared.state.Entry.{Entry}
use Rattle.deck9.specs.declared.state.Entry.TheVariants.{Clear, At}
use Rattle.deck9.specs.declared.state.Hands.{Hands}
use Rattle.deck9.specs.declared.state.Hands.TheVariants as hands
use Rattle.deck9.specs.declared.state.Register.{Register}
use Rattle.deck9.specs.declared.state.Register.TheVariants.{RegIn, RegOut, RegAudioIn, RegAudioOut}
use Rattle.deck9.specs.declared.state.State.{State}

-- what a register holds
abbrev pub entry_of : Register → State → Entry
entry_of RegIn s = s.ins
entry_of RegOut s = s.outs
entry_of RegAudioIn s = s.ains
entry_of RegAudioOut s = s.aouts

-- the state with this entry in a register, and all else as it was
abbrev pub with_entry : Register → Entry → State → State
with_entry RegIn e s = record s { ins = e }
with_entry RegOut e s = record s { outs = e }
with_entry RegAudioIn e s = record s { ains = e }
with_entry RegAudioOut e s = record s { aouts = e }

-- a register is Clear, or Set at a time of the day
abbrev pub IsEntry : Rate → Entry → Type 0
IsEntry rate Clear = ⊤
IsEntry rate (At t) = t < day rate

-- a register that is not Clear is called Set
abbrev pub is_set : Entry → Bool
is_set Clear = false
is_set (At t) = true

-- a state: any two modes, any entries, local or not, panel or not
abbrev pub IsState : Rate → State → Type 0
IsState rate s = (r : Register) → IsEntry rate (entry_of r s)

-- the panel is on only where hands are allowed
abbrev pub MayBeOn : Hands → Bool → Type 0
MayBeOn hands.None panel = panel ≡ false
MayBeOn hands.Allowed panel = ⊤

-- the states in which a deck may be before a capture: any, but for the panel where nobody touches it
abbrev pub IsFirst : Profile → State → Type 0
IsFirst p s = IsState p.rate s × MayBeOn p.hands s.panel
