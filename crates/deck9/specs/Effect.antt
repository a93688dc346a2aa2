-- What each command does to the deck.
use Rattle.std.specs.Prelude.{ℕ, ◌≡◌, ◌<◌, ◌⊎◌, Bool, true, false, Option, None, Some, ⊤}
use Rattle.tc25.specs.Day.{day, next_frame, prev_frame}
use Rattle.block9.specs.declared.command.Command.{Command}
use Rattle.block9.specs.declared.command.Command.TheVariants as command
use Rattle.deck9.specs.declared.deck.Deck.{Deck}
use Rattle.deck9.specs.declared.deck.Forgotten.{Forgotten}
use Rattle.deck9.specs.declared.deck.Forgotten.TheVariants as forgotten
use Rattle.deck9.specs.declared.mode.Mode.TheVariants as mode
use Rattle.deck9.specs.declared.state.Entry.{Entry}
use Rattle.deck9.specs.declared.state.Entry.TheVariants.{Clear, At}
use Rattle.deck9.specs.declared.state.Hands.{Hands}
use Rattle.deck9.specs.declared.state.Hands.TheVariants as hands
use Rattle.deck9.specs.declared.state.Register.TheVariants.{RegIn, RegOut, RegAudioIn, RegAudioOut}
use Rattle.deck9.specs.declared.state.State.{State}
use Rattle.deck9.specs.declared.profile.Profile.{Profile}
use Rattle.tc25.specs.declared.rate.Rate.{Rate}
use Rattle.deck9.specs.declared.effect.Effect.{Effect}
use Rattle.deck9.specs.declared.effect.Effect.TheVariants as effect
use Rattle.deck9.specs.declared.effect.Change.{Change}
use Rattle.deck9.specs.declared.effect.Change.TheVariants.{SetSomewhere, SetAt, Next, Prev, Reset, Recall}
use Rattle.deck9.specs.declared.mode_set.ModeSet.{ModeSet}
use Rattle.deck9.specs.Deck.{forgotten_at, goals_at}
use Rattle.deck9.specs.ModeSet.{bit_of, has, modes}
use Rattle.deck9.specs.State.{IsEntry, IsState, entry_of, with_entry}

-- the effect of each listed command; one that is not listed has its effect by `effect_of`
abbrev pub listed_effect : Command → Effect
listed_effect command.Stop = effect.Go mode.Stop
listed_effect command.Play = effect.Go mode.Play
listed_effect command.SyncPlay = effect.Go mode.Play
listed_effect command.Record = effect.Go mode.Rec
listed_effect command.StandbyOff = effect.KeepOr (modes (bit_of mode.Stop))
listed_effect command.StandbyOn = effect.KeepOr (modes (bit_of mode.Stop))
listed_effect command.Eject = effect.Go mode.Eject
listed_effect command.FastForward = effect.Go mode.FastForward
listed_effect command.Rewind = effect.Go mode.Rewind
listed_effect command.JogForward = effect.Go mode.Jog
listed_effect command.JogReverse = effect.Go mode.Jog
listed_effect command.VarForward = effect.Go mode.Var
listed_effect command.VarReverse = effect.Go mode.Var
listed_effect command.ShuttleForward = effect.Go mode.Shuttle
listed_effect command.ShuttleReverse = effect.Go mode.Shuttle
listed_effect command.Preroll = effect.Go mode.Cued
listed_effect (command.CueUpWithData time) = effect.Go mode.Cued
listed_effect command.InEntry = effect.Change RegIn SetSomewhere
listed_effect command.OutEntry = effect.Change RegOut SetSomewhere
listed_effect command.AudioInEntry = effect.Change RegAudioIn SetSomewhere
listed_effect command.AudioOutEntry = effect.Change RegAudioOut SetSomewhere
listed_effect (command.InDataPreset time) = effect.Change RegIn (SetAt time)
listed_effect (command.OutDataPreset time) = effect.Change RegOut (SetAt time)
listed_effect (command.AudioInDataPreset time) = effect.Change RegAudioIn (SetAt time)
listed_effect (command.AudioOutDataPreset time) = effect.Change RegAudioOut (SetAt time)
listed_effect command.InShiftPlus = effect.Change RegIn Next
listed_effect command.InShiftMinus = effect.Change RegIn Prev
listed_effect command.OutShiftPlus = effect.Change RegOut Next
listed_effect command.OutShiftMinus = effect.Change RegOut Prev
listed_effect command.AudioInShiftPlus = effect.Change RegAudioIn Next
listed_effect command.AudioInShiftMinus = effect.Change RegAudioIn Prev
listed_effect command.AudioOutShiftPlus = effect.Change RegAudioOut Next
listed_effect command.AudioOutShiftMinus = effect.Change RegAudioOut Prev
listed_effect command.InFlagReset = effect.Change RegIn Reset
listed_effect command.OutFlagReset = effect.Change RegOut Reset
listed_effect command.AudioInFlagReset = effect.Change RegAudioIn Reset
listed_effect command.AudioOutFlagReset = effect.Change RegAudioOut Reset
listed_effect command.InRecall = effect.Change RegIn Recall
listed_effect command.OutRecall = effect.Change RegOut Recall
listed_effect command.AudioInRecall = effect.Change RegAudioIn Recall
listed_effect command.AudioOutRecall = effect.Change RegAudioOut Recall
listed_effect command.LocalEnable = effect.Panel true
listed_effect command.LocalDisable = effect.Panel false
listed_effect command.DeviceType = effect.Nothing
listed_effect command.EditPreset = effect.Nothing
listed_effect command.PrerollPreset = effect.Nothing
listed_effect command.TimerModeSelect = effect.Nothing
listed_effect command.AutoModeOff = effect.Nothing
listed_effect command.AutoModeOn = effect.Nothing
listed_effect (command.CurrentTimeSense selector) = effect.Nothing
listed_effect command.InDataSense = effect.Nothing
listed_effect command.OutDataSense = effect.Nothing
listed_effect command.AudioInDataSense = effect.Nothing
listed_effect command.AudioOutDataSense = effect.Nothing
listed_effect (command.StatusSense asked) = effect.Nothing
listed_effect (command.Unlisted head) = effect.Nothing

-- the effect of a command that is not listed, with the goals and with what is forgotten that are named for it
abbrev pub unlisted_effect : Option ModeSet → Forgotten → Effect
unlisted_effect (Some goals) forgotten = effect.KeepOr goals
unlisted_effect None forgotten = effect.Forget forgotten

-- the effect of each command: one that is not listed may lead to the goals that are named for it, or makes the deck forget
abbrev pub effect_of : Option Deck → Command → Effect
effect_of deck (command.Unlisted head) = unlisted_effect (goals_at deck head) (forgotten_at deck head)
effect_of deck c = listed_effect c

-- ---- what an effect may do

-- a Set register moves, a Clear one stays
abbrev pub moved_entry : (ℕ → ℕ) → Entry → Entry
moved_entry move Clear = Clear
moved_entry move (At t) = At (move t)

-- what may become of a register's entry
abbrev pub Becomes : Rate → Change → Entry → Entry → Type 0
Becomes rate SetSomewhere old new = (t : ℕ) × (t < day rate) × (new ≡ At t)
Becomes rate (SetAt t) old new = (t < day rate) × (new ≡ At t)
Becomes rate Next old new = new ≡ moved_entry (next_frame rate) old
Becomes rate Prev old new = new ≡ moved_entry (prev_frame rate) old
Becomes rate Reset old new = new ≡ Clear
Becomes rate Recall old new = IsEntry rate new

-- the state with the panel switched on or off, where hands are allowed
abbrev pub switched : Hands → Bool → State → State
switched hands.None on s = s
switched hands.Allowed on s = record s { panel = on }

-- the goal is kept, or becomes one of these
abbrev pub KeepsOrGoes : ModeSet → State → State → Type 0
KeepsOrGoes goals s t = (t ≡ s) ⊎ ((has goals.0 t.goal ≡ true) × (t ≡ record s { goal = t.goal }))

-- the panel stays, where nobody touches it
abbrev pub KeepsPanel : Hands → State → State → Type 0
KeepsPanel hands.None s t = t.panel ≡ s.panel
KeepsPanel hands.Allowed s t = ⊤

-- what may become of a state where this is forgotten
abbrev pub Forgets : Profile → Forgotten → State → State → Type 0
Forgets p forgotten.Nothing s t = t ≡ s
Forgets p forgotten.Motion s t = t ≡ record s { goal = t.goal; shown = t.shown }
Forgets p forgotten.Registers s t = IsState p.rate t × (t.goal ≡ s.goal) × (t.shown ≡ s.shown) × (t.local ≡ s.local) × (t.panel ≡ s.panel)
Forgets p forgotten.Tape s t = IsState p.rate t × (t.local ≡ s.local) × (t.panel ≡ s.panel)
Forgets p forgotten.Everything s t = IsState p.rate t × KeepsPanel p.hands s t

-- what may become of a state; fields that are not named stay
abbrev pub Does : Profile → Effect → State → State → Type 0
Does p effect.Nothing s t = t ≡ s
Does p (effect.Go g) s t = t ≡ record s { goal = g }
Does p (effect.KeepOr goals) s t = KeepsOrGoes goals s t
Does p (effect.Change r c) s t = (e : Entry) × Becomes p.rate c (entry_of r s) e × (t ≡ with_entry r e s)
Does p (effect.Panel on) s t = t ≡ switched p.hands on s
Does p (effect.Forget f) s t = Forgets p f s t

-- the state t, with what is forgotten as it is in o
abbrev pub with_forgotten : Forgotten → State → State → State
with_forgotten forgotten.Nothing o t = t
with_forgotten forgotten.Motion o t = record t { goal = o.goal; shown = o.shown }
with_forgotten forgotten.Registers o t = record t { ins = o.ins; outs = o.outs; ains = o.ains; aouts = o.aouts }
with_forgotten forgotten.Tape o t = record t { goal = o.goal; shown = o.shown; ins = o.ins; outs = o.outs; ains = o.ains; aouts = o.aouts }
with_forgotten forgotten.Everything o t = o
