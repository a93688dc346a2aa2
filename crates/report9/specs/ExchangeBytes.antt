-- An exchange with the bytes of its blocks: its records, what was asked and what was answered, each with its time, and what the reply
-- says of the deck.
use Rattle.std.specs.Prelude.{ℕ, ◌+◌, ◌-◌, Bool, if◌then◌else◌, Option, Some, None, List, [], ◌∷◌, ◌++◌, codes}
use Rattle.std.specs.Fmt.{decimal}
use Rattle.std.specs.List.{list_any}
use Rattle.tc25.specs.Day.{text_of, time_of}
use Rattle.tc25.specs.declared.rate.Rate.{Rate}
use Rattle.block9.specs.declared.block.Block.{Block}
use Rattle.block9.specs.declared.command.Command.{Command}
use Rattle.block9.specs.declared.command.Command.TheVariants.{CurrentTimeSense}
use Rattle.block9.specs.declared.exchange.Exchange.{Exchange}
use Rattle.block9.specs.Command.{is_nak, time_in}
use Rattle.block9.specs.Exchange.{records_of}
use Rattle.block9.specs.Replies.{is_own}
use Rattle.deck9.specs.declared.mode_set.ModeSet.{ModeSet}
use Rattle.deck9.specs.declared.profile.Profile.{Profile}
use Rattle.deck9.specs.declared.sense.Sense.{Sense}
use Rattle.deck9.specs.declared.sense.Sense.TheVariants as sense
use Rattle.deck9.specs.declared.status.RegistersSet.{RegistersSet}
use Rattle.deck9.specs.declared.status.Status.{Status}
use Rattle.deck9.specs.Mode.{every_mode, name_of as name_of_mode}
use Rattle.deck9.specs.ModeSet.{has}
use Rattle.deck9.specs.Names.{name_told}
use Rattle.deck9.specs.Shows.{shown_by}
use Rattle.deck9.specs.Status.{status_of}
use Rattle.report9.specs.Bytes.{text_of_block}
use Rattle.report9.specs.Row.{in_a_row, names_of}

-- ---- what was asked

-- a word and a space, where there is a word
abbrev pub with_space : Option (List ℕ) → List ℕ
with_space None = []
with_space (Some word) = word ++ codes " "

-- a time and a space, where there is a time
abbrev pub time_with_space : Rate → Option ℕ → List ℕ
time_with_space rate None = []
time_with_space rate (Some time) = text_of rate time ++ codes " "

-- the name of a command, where it has one, and its time
unfoldable pub words_of : Profile → Command → List ℕ
words_of p c = with_space (name_told p.deck c) ++ time_with_space p.rate (time_in c)

-- these, and the bytes of its block
unfoldable pub text_of_command_sent : Profile → Exchange → List ℕ
text_of_command_sent p e = words_of p e.command ++ text_of_block e.block

-- ---- what was answered

-- the modes of a set, with bars between them, and `none` where there is none
unfoldable pub text_of_modes : ModeSet → List ℕ
text_of_modes set = if list_any (has set.0) every_mode then in_a_row [] (codes "|") (names_of (has set.0) name_of_mode every_mode) else codes "none"

-- what a status says by itself, each part where it is reported: LOCAL; the modes that may be shown; the registers
abbrev pub local_said : Option Bool → List (List ℕ)
local_said None = []
local_said (Some local) = (if local then codes "local yes" else codes "local no") ∷ []

abbrev pub shown_said : Option ModeSet → List (List ℕ)
shown_said None = []
shown_said (Some modes) = (codes "shown " ++ text_of_modes modes) ∷ []

abbrev pub register_said : List ℕ → Bool → List ℕ
register_said label is_set = label ++ (if is_set then codes "set" else codes "clear")

abbrev pub registers_said : Option RegistersSet → List (List ℕ)
registers_said None = []
registers_said (Some set) =
    register_said (codes "in ") set.ins ∷ register_said (codes "out ") set.outs
    ∷ register_said (codes "ain ") set.ains ∷ register_said (codes "aout ") set.aouts ∷ []

abbrev pub said_by_status : Status → List (List ℕ)
said_by_status status = local_said status.local ++ shown_said status.shown ++ registers_said status.registers

-- the time before a reply's bytes, where it is a valid one: the deck's own, or that of a register
abbrev pub time_told : Rate → Command → Block → Option ℕ
time_told rate (CurrentTimeSense selector) reply = if is_own (CurrentTimeSense selector) reply then time_of rate reply.bytes.items else None
time_told rate c reply = time_of_register rate (shown_by c reply) reply
  where
    time_of_register : Rate → Sense → Block → Option ℕ
    time_of_register rate (sense.Register r) reply = time_of rate reply.bytes.items
    time_of_register rate (sense.Status asked) reply = None
    time_of_register rate sense.Nothing reply = None

-- the status data in a reply, where it carries some: a NAK carries none
abbrev pub status_in : Sense → Block → Option Status
status_in (sense.Register r) reply = None
status_in (sense.Status asked) reply = if is_nak reply then None else Some (status_of asked reply)
status_in sense.Nothing reply = None

-- the words after them: those of status data
abbrev pub said : Option Status → List (List ℕ)
said None = []
said (Some status) = said_by_status status

-- the time in a reply, and the bytes of its block
unfoldable pub text_of_reply_sent : Profile → Exchange → List ℕ
text_of_reply_sent p e = time_with_space p.rate (time_told p.rate e.command e.reply) ++ text_of_block e.reply

-- these, and what status data say
unfoldable pub text_of_reply_given : Profile → Exchange → List ℕ
text_of_reply_given p e = text_of_reply_sent p e ++ in_a_row (codes ", says ") (codes ", ") (said (status_in (shown_by e.command e.reply) e.reply))

-- ---- both

-- how a line of records begins: the numbers of the first and the last, and the time of the first
unfoldable pub text_of_records : ℕ → ℕ → ℕ → List ℕ
text_of_records first last time = (codes "records " ++ decimal first) ++ (codes " to " ++ decimal last) ++ (codes " at " ++ decimal time)

-- the records of an exchange, by the number of the last
abbrev pub records_told : ℕ → Exchange → List ℕ
records_told at e = text_of_records (at - records_of e + 1) at e.time_us

-- an exchange, by the number of its last record
unfoldable pub text_of_exchange : Profile → ℕ → Exchange → List ℕ
text_of_exchange p at e = records_told at e ++ (codes ": " ++ text_of_command_sent p e) ++ (codes " -> " ++ text_of_reply_given p e)
