-- What a reply shows of the deck's state.
use Rattle.std.specs.Prelude.{◌≡◌, if◌then◌else◌, true, List, ℕ, ⊤}
use Rattle.std.specs.Option.{IfSome}
use Rattle.tc25.specs.Day.{ReadsAs}
use Rattle.block9.specs.declared.block.Block.{Block}
use Rattle.block9.specs.declared.command.Command.{Command}
use Rattle.block9.specs.declared.command.Command.TheVariants as command
use Rattle.block9.specs.Replies.{is_own}
use Rattle.deck9.specs.declared.sense.Sense.{Sense}
use Rattle.deck9.specs.declared.sense.Sense.TheVariants as sense
use Rattle.deck9.specs.declared.state.Entry.{Entry}
use Rattle.deck9.specs.declared.state.Entry.TheVariants.{Clear, At}
use Rattle.deck9.specs.declared.state.Register.TheVariants.{RegIn, RegOut, RegAudioIn, RegAudioOut}
use Rattle.deck9.specs.declared.state.State.{State}
use Rattle.deck9.specs.declared.status.RegistersSet.{RegistersSet}
use Rattle.deck9.specs.declared.status.Status.{Status}
use Rattle.deck9.specs.ModeSet.{has}
use Rattle.tc25.specs.declared.rate.Rate.{Rate}
use Rattle.deck9.specs.State.{entry_of, is_set}
use Rattle.deck9.specs.Status.{status_of}

-- what each command asks for of the state
abbrev pub sense_of : Command → Sense
sense_of command.InDataSense = sense.Register RegIn
sense_of command.OutDataSense = sense.Register RegOut
sense_of command.AudioInDataSense = sense.Register RegAudioIn
sense_of command.AudioOutDataSense = sense.Register RegAudioOut
sense_of (command.StatusSense asked) = sense.Status asked
sense_of command.LocalDisable = sense.Nothing
sense_of command.DeviceType = sense.Nothing
sense_of command.LocalEnable = sense.Nothing
sense_of command.Stop = sense.Nothing
sense_of command.Play = sense.Nothing
sense_of command.Record = sense.Nothing
sense_of command.StandbyOff = sense.Nothing
sense_of command.StandbyOn = sense.Nothing
sense_of command.Eject = sense.Nothing
sense_of command.FastForward = sense.Nothing
sense_of command.JogForward = sense.Nothing
sense_of command.VarForward = sense.Nothing
sense_of command.ShuttleForward = sense.Nothing
sense_of command.Rewind = sense.Nothing
sense_of command.JogReverse = sense.Nothing
sense_of command.VarReverse = sense.Nothing
sense_of command.ShuttleReverse = sense.Nothing
sense_of command.Preroll = sense.Nothing
sense_of (command.CueUpWithData time) = sense.Nothing
sense_of command.SyncPlay = sense.Nothing
sense_of command.InEntry = sense.Nothing
sense_of command.OutEntry = sense.Nothing
sense_of command.AudioInEntry = sense.Nothing
sense_of command.AudioOutEntry = sense.Nothing
sense_of (command.InDataPreset time) = sense.Nothing
sense_of (command.OutDataPreset time) = sense.Nothing
sense_of (command.AudioInDataPreset time) = sense.Nothing
sense_of (command.AudioOutDataPreset time) = sense.Nothing
sense_of command.InShiftPlus = sense.Nothing
sense_of command.InShiftMinus = sense.Nothing
sense_of command.OutShiftPlus = sense.Nothing
sense_of command.OutShiftMinus = sense.Nothing
sense_of command.AudioInShiftPlus = sense.Nothing
sense_of command.AudioInShiftMinus = sense.Nothing
sense_of command.AudioOutShiftPlus = sense.Nothing
sense_of command.AudioOutShiftMinus = sense.Nothing
sense_of command.InFlagReset = sense.Nothing
sense_of command.OutFlagReset = sense.Nothing
sense_of command.AudioInFlagReset = sense.Nothing
sense_of command.AudioOutFlagReset = sense.Nothing
sense_of command.InRecall = sense.Nothing
sense_of command.OutRecall = sense.Nothing
sense_of command.AudioInRecall = sense.Nothing
sense_of command.AudioOutRecall = sense.Nothing
sense_of command.EditPreset = sense.Nothing
sense_of command.PrerollPreset = sense.Nothing
sense_of command.TimerModeSelect = sense.Nothing
sense_of command.AutoModeOff = sense.Nothing
sense_of command.AutoModeOn = sense.Nothing
sense_of (command.CurrentTimeSense selector) = sense.Nothing
sense_of (command.Unlisted head) = sense.Nothing

-- ---- registers

-- a Set register gives its time, but for flag bits; a Clear one gives any bytes
abbrev pub Tells : Rate → Entry → List ℕ → Type 0
Tells rate Clear bytes = ⊤
Tells rate (At t) bytes = ReadsAs rate bytes t

-- ---- status

-- each register is Set exactly where these say so
pub record AreSet (s : State) (set : RegistersSet) : Type 0 where
  pub ins : is_set s.ins ≡ set.ins
  pub outs : is_set s.outs ≡ set.outs
  pub ains : is_set s.ains ≡ set.ains
  pub aouts : is_set s.aouts ≡ set.aouts

-- what a status reports is so of the state: LOCAL, the shown mode as one of those that are reported, and the registers
pub record ShowsStatus (s : State) (status : Status) : Type 0 where
  pub local : IfSome status.local (λ local. s.local ≡ local)
  pub shown : IfSome status.shown (λ modes. has modes.0 s.shown ≡ true)
  pub registers : IfSome status.registers (AreSet s)

-- ---- both

-- a reply to what was asked for agrees with the state
abbrev pub Agrees : Rate → Sense → State → Block → Type 0
Agrees rate (sense.Register r) s reply = Tells rate (entry_of r s) reply.bytes.items
Agrees rate (sense.Status asked) s reply = ShowsStatus s (status_of asked reply)
Agrees rate sense.Nothing s reply = ⊤

-- what a reply shows: what the command asks for, where the reply is one of the command's own; and nothing where only a sheet lets the
-- command take it
abbrev pub shown_by : Command → Block → Sense
shown_by command reply = if is_own command reply then sense_of command else sense.Nothing

-- a reply to a command agrees with the state
abbrev pub Shows : Rate → State → Command → Block → Type 0
Shows rate s command reply = Agrees rate (shown_by command reply) s reply
