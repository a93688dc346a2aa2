-- Which states an effect may have led from: a pattern of fields, each fixed or free.
use Rattle.std.specs.Prelude.{if◌then◌else◌, nat_lt, ◌==◌, ◌≡◌, ◌⊎◌}
use Rattle.deck9.specs.declared.going.Going.{Going}
use Rattle.deck9.specs.declared.going.Lost.{Lost}
use Rattle.deck9.specs.Going.{may_lose}
use Rattle.track9.specs.Working.Acting.{Acted}
use Rattle.track9.specs.Working.Deck.{Pattern, At, bit_of, Bool, both, Change, Clear, Command, day, Does, Drift, Effect, effect_of, Entry, false, Forgotten, Hands, has, has_pair, is_some, IsState, KeepsRest}
use Rattle.track9.specs.Working.Deck.{List, may_ignore, Mode, modes, ModeSet, moved_entry, Next, next_frame, None, Option, option_map, Pair, PairReaches, Prev, prev_frame, Profile, Rate}
use Rattle.track9.specs.Working.Deck.{Recall, RegAudioIn, RegAudioOut, RegIn, Register, RegOut, Reset, SetAt, SetSomewhere, Some, State, true}
use Rattle.deck9.specs.declared.deck.Forgotten.TheVariants as forgotten
use Rattle.deck9.specs.declared.effect.Effect.TheVariants as effect
use Rattle.deck9.specs.declared.state.Hands.TheVariants as hands
pub use Rattle.track9.specs.Start.{Is}

-- two facts are one
abbrev pub same_fact : Bool → Bool → Bool
same_fact true b = b
same_fact false true = false
same_fact false false = true

-- a fact is as it is wanted, if it is
abbrev pub is_as_wanted : Option Bool → Bool → Bool
is_as_wanted None fact = true
is_as_wanted (Some wanted) fact = same_fact fact wanted

-- what a register held before a drift that leads to what is wanted of it: anything, where clear is wanted and it may have been lost
abbrev pub wanted_from : Lost → Register → Option Entry → Option Entry
wanted_from lost r (Some Clear) = if may_lose lost r then None else Some Clear
wanted_from lost r (Some (At time)) = Some (At time)
wanted_from lost r None = None

-- the entry of a register that is wanted
abbrev pub wanted_of : Register → Pattern → Option Entry
wanted_of RegIn a = a.ins
wanted_of RegOut a = a.outs
wanted_of RegAudioIn a = a.ains
wanted_of RegAudioOut a = a.aouts

abbrev pub with_wanted : Register → Option Entry → Pattern → Pattern
with_wanted RegIn o a = record a { ins = o }
with_wanted RegOut o a = record a { outs = o }
with_wanted RegAudioIn o a = record a { ains = o }
with_wanted RegAudioOut o a = record a { aouts = o }

-- a state is one of those that are wanted
pub record Fits (a : Pattern) (d : State) : Type 0 where
  pub goal : has a.goals.0 d.goal ≡ true
  pub shown : has a.shown.0 d.shown ≡ true
  pub ins : Is a.ins d.ins
  pub outs : Is a.outs d.outs
  pub ains : Is a.ains d.ains
  pub aouts : Is a.aouts d.aouts
  pub local : Is a.local d.local
  pub panel : Is a.panel d.panel

-- the state alone
abbrev pub just_state : State → Pattern
just_state t = record {
  goals = modes (bit_of t.goal);
  shown = modes (bit_of t.shown);
  ins = Some t.ins;
  outs = Some t.outs;
  ains = Some t.ains;
  aouts = Some t.aouts;
  local = Some t.local;
  panel = Some t.panel;
}

-- ---- before an effect

-- what an entry was that has become this one: nothing where it can't have, and then which one, or any
abbrev pub entry_before : Rate → Change → Entry → Option (Option Entry)
entry_before rate SetSomewhere Clear = None
entry_before rate SetSomewhere (At t) = Some None
entry_before rate (SetAt u) Clear = None
entry_before rate (SetAt u) (At t) = if t == u then Some None else None
entry_before rate Next e = Some (Some (moved_entry (prev_frame rate) e))
entry_before rate Prev e = Some (Some (moved_entry (next_frame rate) e))
entry_before rate Reset Clear = Some None
entry_before rate Reset (At t) = None
entry_before rate Recall e = Some None

-- what it was that has become one that is wanted: a time that is none of the day becomes no entry
abbrev pub wanted_before : Rate → Change → Option Entry → Option (Option Entry)
wanted_before rate c (Some e) = entry_before rate c e
wanted_before rate (SetAt t) None = if nat_lt t (day rate) then Some None else None
wanted_before rate c None = Some None

-- any goal
abbrev pub any_goal : Pattern → Pattern
any_goal a = record a { goals = modes 0x3FF }

-- any registers
abbrev pub any_registers : Pattern → Pattern
any_registers a = record a { ins = None; outs = None; ains = None; aouts = None }

-- any goal and shown mode
abbrev pub any_motion : Pattern → Pattern
any_motion a = record a { goals = modes 0x3FF; shown = modes 0x3FF }

-- any tape: goal, shown mode and registers
abbrev pub any_tape : Pattern → Pattern
any_tape a = any_motion (any_registers a)

-- the panel may have been anything, where hands are allowed
abbrev pub any_panel : Hands → Pattern → Pattern
any_panel hands.None a = a
any_panel hands.Allowed a = record a { panel = None }

-- the states from which the panel was switched on or off
abbrev pub panel_before : Hands → Bool → Pattern → Option Pattern
panel_before hands.None on a = Some a
panel_before hands.Allowed on a = if is_as_wanted a.panel on then Some (record a { panel = None }) else None

-- the states from which forgetting leads to one of these
abbrev pub forgotten_before : Hands → Forgotten → Pattern → Pattern
forgotten_before h forgotten.Nothing a = a
forgotten_before h forgotten.Motion a = any_motion a
forgotten_before h forgotten.Registers a = any_registers a
forgotten_before h forgotten.Tape a = any_tape a
forgotten_before h forgotten.Everything a = any_panel h (record (any_tape a) { local = None })

-- the states from which the effect leads to one of these
abbrev pub pattern_before : Rate → Hands → Effect → Pattern → Option Pattern
pattern_before rate h effect.Nothing a = Some a
pattern_before rate h (effect.Go g) a = if has a.goals.0 g then Some (any_goal a) else None
pattern_before rate h (effect.KeepOr goals) a = Some (if is_some (both goals a.goals) then any_goal a else a)
pattern_before rate h (effect.Change r c) a = option_map (λ o. with_wanted r o a) (wanted_before rate c (wanted_of r a))
pattern_before rate h (effect.Panel on) a = panel_before h on a
pattern_before rate h (effect.Forget f) a = Some (forgotten_before h f a)

-- the command's effect, or nothing where a deck in LOCAL ignores the command
abbrev pub DoesOrIgnores : Profile → Command → State → State → Type 0
DoesOrIgnores p c d t = Does p (effect_of p.deck c) d t ⊎ ((may_ignore c ≡ true) × (d.local ≡ true) × (t ≡ d))

-- one of these may be in LOCAL, and have ignored the command
abbrev pub IsIgnored : Command → Pattern → Type 0
IsIgnored c a = (may_ignore c ≡ true) × Is a.local true

-- a drift, and then the command's effect or nothing, lead from the state to one of those that are wanted
abbrev pub ComesTo : Profile → Going → Command → Pattern → State → Type 0
ComesTo p on c a s = (d t : State) × Drift p on s d × IsState p.rate t × DoesOrIgnores p c d t × Fits a t

-- ---- a drift before

-- a drift leads from the state to one of those that are wanted
abbrev pub LeadsTo : Profile → Going → Pattern → State → Type 0
LeadsTo p on a s = (d : State) × Drift p on s d × Fits a d

-- a drift of the mechanics does
abbrev pub RunsTo : Acted → Pattern → State → Type 0
RunsTo acted a s = (d : State) × KeepsRest acted.on s d × PairReaches acted.deck acted.on s.goal s.shown d.goal d.shown × Fits a d

-- a state of the day is wanted
abbrev pub IsPattern : Rate → Pattern → Type 0
IsPattern rate a = (d : State) × IsState rate d × Fits a d

-- a pair from which a drift of the mechanics reaches one of these goals with one of these modes shown
abbrev pub PairRunsTo : Acted → ModeSet → ModeSet → Mode → Mode → Type 0
PairRunsTo acted goals shown f n = (g m : Mode) × (has goals.0 g ≡ true) × (has shown.0 m ≡ true) × PairReaches acted.deck acted.on f n g m

-- the pair is one of these
abbrev pub IsPairOf : List ModeSet → Pair → Type 0
IsPairOf pairs p = has_pair pairs p.goal p.shown ≡ true
