-- A tracker as its callers see it: which states are possible, by the pairs of modes and the sets of times that it
-- keeps. The states themselves are never listed.
use Rattle.std.specs.Prelude.{◌≡◌, Bool, true, false, if◌then◌else◌, Option, Some, None, slice_index_or, List}
use Rattle.std.specs.FinSet as set
use Rattle.sets25.specs.Times.{Times}
use Rattle.deck9.specs.declared.mode.Mode.{Mode}
use Rattle.deck9.specs.declared.mode_set.ModeSet.{ModeSet}
use Rattle.track9.specs.Presets.{Presets}
use Rattle.deck9.specs.declared.state.Entry.{Entry}
use Rattle.deck9.specs.declared.state.Entry.TheVariants.{Clear, At}
use Rattle.deck9.specs.declared.going.Going.{Going}
use Rattle.deck9.specs.declared.profile.Profile.{Profile}
use Rattle.tc25.specs.declared.rate.Rate.{Rate}
use Rattle.deck9.specs.declared.state.Register.{Register}
use Rattle.deck9.specs.declared.state.Register.TheVariants.{RegIn, RegOut, RegAudioIn, RegAudioOut}
use Rattle.deck9.specs.declared.state.State.{State}
use Rattle.deck9.specs.Mode.{index_of}
use Rattle.deck9.specs.ModeSet.{has}
use Rattle.deck9.specs.State.{entry_of}

-- the entries that a register may have: whether it may be Clear, and the times at which it may be Set
pub record Entries : Type 0 where
  pub may_clear : Bool
  pub times : Times
  -- the rate whose times these are
  pub rate : Rate

-- one of these entries
abbrev pub Allows : Entries → Entry → Type 0
Allows es Clear = es.may_clear ≡ true
Allows es (At t) = set.contains es.times t ≡ true

-- the modes that may be shown with a goal, in a list of those with each goal, in the order of the modes
abbrev pub shown_with : List ModeSet → Mode → ModeSet
shown_with pairs g = slice_index_or pairs (index_of g) (record { 0 = 0 })

-- a goal may go with a shown mode
abbrev pub has_pair : List ModeSet → Mode → Mode → Bool
has_pair pairs g m = has (shown_with pairs g).0 m

-- a part: each of these pairs together with any of the entries of each register
pub record Part : Type 0 where
  pub pairs : List ModeSet
  pub ins : Entries
  pub outs : Entries
  pub ains : Entries
  pub aouts : Entries

-- the entries of a register in a part
abbrev pub entries_of : Register → Part → Entries
entries_of RegIn p = p.ins
entries_of RegOut p = p.outs
entries_of RegAudioIn p = p.ains
entries_of RegAudioOut p = p.aouts

-- a state is in a part, whatever its local and panel
pub record InPart (p : Part) (s : State) : Type 0 where
  pub pair : has_pair p.pairs s.goal s.shown ≡ true
  pub registers : (r : Register) → Allows (entries_of r p) (entry_of r s)

-- the states with one value of the panel: a part of those in REMOTE, and one of those in LOCAL
pub record Halves : Type 0 where
  pub remote : Part
  pub local : Part

-- the part with this value of local
abbrev pub in_local : Halves → Bool → Part
in_local h false = h.remote
in_local h true = h.local

-- a set of states: those with the panel off, and those with the panel on, of which there is nothing where hands are not allowed
pub record States : Type 0 where
  pub off : Halves
  pub on : Option Halves

-- one of these states, whatever its panel
abbrev pub IsIn : Option Halves → State → Type 0
IsIn None s = ⊥
IsIn (Some h) s = InPart (in_local h s.local) s

-- a state is possible
abbrev pub Possible : States → State → Type 0
Possible v s = IsIn (if s.panel then v.on else Some v.off) s

-- a tracker: the states that are possible, what the deck is taken for, the presets that were counted, and what may be going on
pub record Tracked : Type 0 where
  pub states : States
  pub profile : Profile
  pub presets : Presets
  pub going : Going
