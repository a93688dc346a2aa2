-- What a block of the controller means, its name, and which replies go with it: the tables of commands and replies.
use Rattle.std.specs.Prelude.{ℕ, ◌%◌, ◌/◌, ◌==◌, ◌&&◌, ◌||◌, nat_le, if◌then◌else◌, Bool, true, Option, Some, None, option_map, List, [], ◌∷◌, length, codes}
use Rattle.std.specs.List.{list_any}
use Rattle.tc25.specs.Day.{time_of, is_valid_time}
use Rattle.tc25.specs.declared.rate.Rate.{Rate}
use Rattle.tc25.specs.declared.rate.Rate.TheVariants.{Fps25}
use Rattle.block9.specs.declared.block.Block.{Block}
use Rattle.block9.specs.declared.command.Command.{Command}
use Rattle.block9.specs.declared.command.Command.TheVariants.{LocalDisable, DeviceType, LocalEnable, Stop, Play, Record, StandbyOff, StandbyOn, Eject, FastForward, JogForward, VarForward, ShuttleForward, Rewind, JogReverse, VarReverse, ShuttleReverse, Preroll, CueUpWithData, SyncPlay, InEntry, OutEntry, AudioInEntry, AudioOutEntry, InDataPreset, OutDataPreset, AudioInDataPreset, AudioOutDataPreset, InShiftPlus, InShiftMinus, OutShiftPlus, OutShiftMinus, AudioInShiftPlus, AudioInShiftMinus, AudioOutShiftPlus, AudioOutShiftMinus, InFlagReset, OutFlagReset, AudioInFlagReset, AudioOutFlagReset, InRecall, OutRecall, AudioInRecall, AudioOutRecall, EditPreset, PrerollPreset, TimerModeSelect, AutoModeOff, AutoModeOn, CurrentTimeSense, InDataSense, OutDataSense, AudioInDataSense, AudioOutDataSense, StatusSense, Unlisted}
use Rattle.block9.specs.Block.{first_datum, head_of}

-- ---- the command that a block is

-- a row of a table: the first two bytes of a block as one number, and the command that such a block is
pub record Row : Type 0 where
  pub head : ℕ
  pub meaning : Block → Option Command

-- a command whose data bytes, if it has any, are free
abbrev pub row : ℕ → Command → Row
row head c = record { head = head; meaning = λ b. Some c }

-- a command with a time, its four data bytes; a block whose time is not valid is no command
abbrev pub timed : Rate → ℕ → (ℕ → Command) → Row
timed rate head c = record { head = head; meaning = λ b. option_map c (time_of rate b.bytes.items) }

-- a command with one data byte, which may be any
abbrev pub with_byte : ℕ → (ℕ → Command) → Row
with_byte head c = record { head = head; meaning = λ b. Some (c (first_datum b)) }

-- a number is one of these
abbrev pub is_one_of : List ℕ → ℕ → Bool
is_one_of ks n = list_any (λ k. k == n) ks

-- the times that may be asked for
abbrev pub is_selector : ℕ → Bool
is_selector n = is_one_of (0x01 ∷ 0x02 ∷ 0x03 ∷ 0x04 ∷ 0x08 ∷ []) n

-- a command whose one data byte selects a time; with another selector it is not listed
abbrev pub selected : ℕ → (ℕ → Command) → Row
selected head c = record { head = head; meaning = λ b. if is_selector (first_datum b) then Some (c (first_datum b)) else Some (Unlisted head) }

-- group 0
abbrev pub system_control : List Row
system_control =
    row 0x00_0C LocalDisable
    ∷ row 0x00_11 DeviceType
    ∷ row 0x00_1D LocalEnable
    ∷ []

-- group 2; where a command has speed bytes there may be one or two
abbrev pub transport_control : Rate → List Row
transport_control rate =
    row 0x20_00 Stop
    ∷ row 0x20_01 Play
    ∷ row 0x20_02 Record
    ∷ row 0x20_04 StandbyOff
    ∷ row 0x20_05 StandbyOn
    ∷ row 0x20_0F Eject
    ∷ row 0x20_10 FastForward
    ∷ row 0x21_11 JogForward
    ∷ row 0x22_11 JogForward
    ∷ row 0x21_12 VarForward
    ∷ row 0x22_12 VarForward
    ∷ row 0x21_13 ShuttleForward
    ∷ row 0x22_13 ShuttleForward
    ∷ row 0x20_20 Rewind
    ∷ row 0x21_21 JogReverse
    ∷ row 0x22_21 JogReverse
    ∷ row 0x21_22 VarReverse
    ∷ row 0x22_22 VarReverse
    ∷ row 0x21_23 ShuttleReverse
    ∷ row 0x22_23 ShuttleReverse
    ∷ row 0x20_30 Preroll
    ∷ timed rate 0x24_31 CueUpWithData
    ∷ row 0x20_34 SyncPlay
    ∷ []

-- group 4
abbrev pub preset_control : Rate → List Row
preset_control rate =
    row 0x40_10 InEntry
    ∷ row 0x40_11 OutEntry
    ∷ row 0x40_12 AudioInEntry
    ∷ row 0x40_13 AudioOutEntry
    ∷ timed rate 0x44_14 InDataPreset
    ∷ timed rate 0x44_15 OutDataPreset
    ∷ timed rate 0x44_16 AudioInDataPreset
    ∷ timed rate 0x44_17 AudioOutDataPreset
    ∷ row 0x40_18 InShiftPlus
    ∷ row 0x40_19 InShiftMinus
    ∷ row 0x40_1A OutShiftPlus
    ∷ row 0x40_1B OutShiftMinus
    ∷ row 0x40_1C AudioInShiftPlus
    ∷ row 0x40_1D AudioInShiftMinus
    ∷ row 0x40_1E AudioOutShiftPlus
    ∷ row 0x40_1F AudioOutShiftMinus
    ∷ row 0x40_20 InFlagReset
    ∷ row 0x40_21 OutFlagReset
    ∷ row 0x40_22 AudioInFlagReset
    ∷ row 0x40_23 AudioOutFlagReset
    ∷ row 0x40_24 InRecall
    ∷ row 0x40_25 OutRecall
    ∷ row 0x40_26 AudioInRecall
    ∷ row 0x40_27 AudioOutRecall
    ∷ row 0x41_30 EditPreset
    ∷ row 0x42_30 EditPreset
    ∷ row 0x44_31 PrerollPreset
    ∷ row 0x41_36 TimerModeSelect
    ∷ row 0x40_40 AutoModeOff
    ∷ row 0x40_41 AutoModeOn
    ∷ []

-- group 6
abbrev pub sense_requests : List Row
sense_requests =
    selected 0x61_0C CurrentTimeSense
    ∷ row 0x60_10 InDataSense
    ∷ row 0x60_11 OutDataSense
    ∷ row 0x60_12 AudioInDataSense
    ∷ row 0x60_13 AudioOutDataSense
    ∷ with_byte 0x61_20 StatusSense
    ∷ []

-- the table of a group
abbrev pub table_of : Rate → ℕ → List Row
table_of rate group =
    if group == 0 then system_control
    else (if group == 2 then transport_control rate
    else (if group == 4 then preset_control rate
    else (if group == 6 then sense_requests else [])))

-- some row of a table has these first two bytes
abbrev pub has_row : List Row → ℕ → Bool
has_row rows head = list_any (λ row. row.head == head) rows

-- the group of a block with these first two bytes: the high four bits of the first one
abbrev pub group_of : ℕ → ℕ
group_of head = head / 0x1000

-- a command with these first two bytes is listed: its group's table has a row for them; the rate plays no part in that
abbrev pub is_listed_head : ℕ → Bool
is_listed_head head = has_row (table_of Fps25 (group_of head)) head

-- what a table says of a block with these first two bytes: a block that it has no row for is a command that is not listed
abbrev pub meaning_in : List Row → ℕ → Block → Option Command
meaning_in [] head b = Some (Unlisted head)
meaning_in (r ∷ rows) head b = if r.head == head then r.meaning b else meaning_in rows head b

-- the command that a block is: none where a time that has to be valid is not
unfoldable pub command_of : Rate → Block → Option Command
command_of rate b = meaning_in (table_of rate b.group) (head_of b) b

-- the time that is in a command
unfoldable pub time_in : Command → Option ℕ
time_in (CueUpWithData time) = Some time
time_in (InDataPreset time) = Some time
time_in (OutDataPreset time) = Some time
time_in (AudioInDataPreset time) = Some time
time_in (AudioOutDataPreset time) = Some time
time_in _ = None

-- ---- kinds of reply

-- a block with these first two bytes
abbrev pub begins : ℕ → Block → Bool
begins head reply = head_of reply == head

-- not acknowledged: one byte of reasons
abbrev pub is_nak : Block → Bool
is_nak = begins 0x11_12

-- acknowledged: no data
abbrev pub is_ack : Block → Bool
is_ack = begins 0x10_01

-- the first two bytes of a timer's time, whose bytes are free
abbrev pub timer_heads : List ℕ
timer_heads = 0x74_00 ∷ 0x74_01 ∷ []

-- the first two bytes of a time code, which has to be valid
abbrev pub time_code_heads : List ℕ
time_code_heads = 0x74_04 ∷ 0x74_06 ∷ 0x74_14 ∷ 0x74_16 ∷ []

-- a time: a timer's, or a time code
abbrev pub is_time : Block → Bool
is_time reply = is_one_of timer_heads (head_of reply) || is_one_of time_code_heads (head_of reply)

-- status data, no more than were asked for
abbrev pub is_status : ℕ → Block → Bool
is_status most reply = reply.group == 7 && reply.code == 0x20 && nat_le (length reply.bytes.items) most

-- ---- the name of each command, and its reply

-- the name that the protocol manual gives to a command, and the reply that it may have besides a NAK
pub record Listing : Type 0 where
  pub name : Option (List ℕ)
  pub answer : Block → Bool

-- a command that is listed
abbrev pub named : List ℕ → (Block → Bool) → Listing
named name answer = record { name = Some name; answer = answer }

-- each command; one that is not listed has no name, and takes any reply
abbrev pub listing : Command → Listing
listing LocalDisable = named (codes "LOCAL DISABLE") is_ack
listing DeviceType = named (codes "DEVICE TYPE") (begins 0x12_11)
listing LocalEnable = named (codes "LOCAL ENABLE") is_ack
listing Stop = named (codes "STOP") is_ack
listing Play = named (codes "PLAY") is_ack
listing Record = named (codes "RECORD") is_ack
listing StandbyOff = named (codes "STANDBY OFF") is_ack
listing StandbyOn = named (codes "STANDBY ON") is_ack
listing Eject = named (codes "EJECT") is_ack
listing FastForward = named (codes "FAST FWD") is_ack
listing JogForward = named (codes "JOG FWD") is_ack
listing VarForward = named (codes "VAR FWD") is_ack
listing ShuttleForward = named (codes "SHUTTLE FWD") is_ack
listing Rewind = named (codes "REWIND") is_ack
listing JogReverse = named (codes "JOG REV") is_ack
listing VarReverse = named (codes "VAR REV") is_ack
listing ShuttleReverse = named (codes "SHUTTLE REV") is_ack
listing Preroll = named (codes "PREROLL") is_ack
listing (CueUpWithData time) = named (codes "CUE UP WITH DATA") is_ack
listing SyncPlay = named (codes "SYNC PLAY") is_ack
listing InEntry = named (codes "IN ENTRY") is_ack
listing OutEntry = named (codes "OUT ENTRY") is_ack
listing AudioInEntry = named (codes "AUDIO IN ENTRY") is_ack
listing AudioOutEntry = named (codes "AUDIO OUT ENTRY") is_ack
listing (InDataPreset time) = named (codes "IN DATA PRESET") is_ack
listing (OutDataPreset time) = named (codes "OUT DATA PRESET") is_ack
listing (AudioInDataPreset time) = named (codes "AUDIO IN DATA PRESET") is_ack
listing (AudioOutDataPreset time) = named (codes "AUDIO OUT DATA PRESET") is_ack
listing InShiftPlus = named (codes "IN SHIFT +") is_ack
listing InShiftMinus = named (codes "IN SHIFT -") is_ack
listing OutShiftPlus = named (codes "OUT SHIFT +") is_ack
listing OutShiftMinus = named (codes "OUT SHIFT -") is_ack
listing AudioInShiftPlus = named (codes "AUDIO IN SHIFT +") is_ack
listing AudioInShiftMinus = named (codes "AUDIO IN SHIFT -") is_ack
listing AudioOutShiftPlus = named (codes "AUDIO OUT SHIFT +") is_ack
listing AudioOutShiftMinus = named (codes "AUDIO OUT SHIFT -") is_ack
listing InFlagReset = named (codes "IN FLAG RESET") is_ack
listing OutFlagReset = named (codes "OUT FLAG RESET") is_ack
listing AudioInFlagReset = named (codes "AUDIO IN FLAG RESET") is_ack
listing AudioOutFlagReset = named (codes "AUDIO OUT FLAG RESET") is_ack
listing InRecall = named (codes "IN RECALL") is_ack
listing OutRecall = named (codes "OUT RECALL") is_ack
listing AudioInRecall = named (codes "AUDIO IN RECALL") is_ack
listing AudioOutRecall = named (codes "AUDIO OUT RECALL") is_ack
listing EditPreset = named (codes "EDIT PRESET") is_ack
listing PrerollPreset = named (codes "PREROLL PRESET") is_ack
listing TimerModeSelect = named (codes "TIMER MODE SELECT") is_ack
listing AutoModeOff = named (codes "AUTO MODE OFF") is_ack
listing AutoModeOn = named (codes "AUTO MODE ON") is_ack
listing (CurrentTimeSense selector) = named (codes "CURRENT TIME SENSE") is_time
listing InDataSense = named (codes "IN DATA SENSE") (begins 0x74_10)
listing OutDataSense = named (codes "OUT DATA SENSE") (begins 0x74_11)
listing AudioInDataSense = named (codes "AUDIO IN DATA SENSE") (begins 0x74_12)
listing AudioOutDataSense = named (codes "AUDIO OUT DATA SENSE") (begins 0x74_13)
listing (StatusSense asked) = named (codes "STATUS SENSE") (is_status (asked % 16))
listing (Unlisted head) = record { name = None; answer = λ reply. true }

-- the name of a command, if it is listed
unfoldable pub name_of : Command → Option (List ℕ)
name_of c = (listing c).name

-- whether a reply is of a kind that the command may have: a NAK is taken for every command
unfoldable pub fits : Command → Block → Bool
fits c reply = is_nak reply || (listing c).answer reply

-- whether the time in a reply is valid, where it has to be
unfoldable pub is_reply_time_valid : Rate → Command → Block → Bool
is_reply_time_valid rate (CurrentTimeSense selector) reply = if is_one_of time_code_heads (head_of reply) then is_valid_time rate reply.bytes.items else true
is_reply_time_valid rate _ reply = true
