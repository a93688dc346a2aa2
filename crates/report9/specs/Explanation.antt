-- The line that explains an exchange: what was asked and answered, and what is known of the deck after it.
use Rattle.std.specs.Prelude.{ℕ, if◌then◌else◌, Bool, true, false, List, [], ◌++◌, unwrap_or, codes}
use Rattle.std.specs.Fmt.{decimal}
use Rattle.std.specs.List.{list_any}
use Rattle.tc25.specs.Day.{text_of}
use Rattle.tc25.specs.declared.rate.Rate.{Rate}
use Rattle.block9.specs.declared.block.Block.{Block}
use Rattle.block9.specs.declared.exchange.Exchange.{Exchange}
use Rattle.block9.specs.Block.{first_datum, head_of}
use Rattle.block9.specs.Command.{is_ack, is_nak}
use Rattle.block9.specs.Nak.{nak_bits}
use Rattle.deck9.specs.declared.going.Going.{Going}
use Rattle.deck9.specs.declared.going.Lost.{Lost}
use Rattle.deck9.specs.declared.going.Lost.TheVariants.{NoRegister, Points, AllRegisters}
use Rattle.deck9.specs.declared.knowledge.Known.{Known}
use Rattle.deck9.specs.declared.knowledge.Known.TheVariants as known
use Rattle.deck9.specs.declared.knowledge.KnownEntry.{KnownEntry}
use Rattle.deck9.specs.declared.knowledge.KnownEntry.TheVariants as entry
use Rattle.deck9.specs.declared.knowledge.Knowledge.{Knowledge}
use Rattle.deck9.specs.declared.mode.Mode.{Mode}
use Rattle.deck9.specs.declared.mode_set.ModeSet.{ModeSet}
use Rattle.deck9.specs.declared.profile.Profile.{Profile}
use Rattle.deck9.specs.declared.state.Hands.{Hands}
use Rattle.deck9.specs.declared.state.Hands.TheVariants as hands
use Rattle.deck9.specs.Mode.{every_mode, name_of as name_of_mode}
use Rattle.deck9.specs.ModeSet.{has}
use Rattle.deck9.specs.Names.{name_told}
use Rattle.deck9.specs.Status.{has_bit}
use Rattle.report9.specs.declared.detail.Detail.{Detail}
use Rattle.report9.specs.declared.detail.Detail.TheVariants as detail
use Rattle.report9.specs.Bytes.{hex_byte, text_of_head}
use Rattle.report9.specs.ExchangeBytes.{text_of_exchange, text_of_modes}
use Rattle.report9.specs.Row.{in_a_row, names_of}

-- ---- what was asked, and what was answered

-- the name of a command, and the first two bytes of one that has none
unfoldable pub text_of_command : Profile → Exchange → List ℕ
text_of_command p e = unwrap_or (name_told p.deck e.command) (text_of_head (head_of e.block))

-- the names of the bits of a table that are set in a byte
abbrev pub names_set : ℕ → List (List ℕ × ℕ) → List (List ℕ)
names_set byte = names_of {A = List ℕ × ℕ} (λ row. has_bit row.1 byte) (λ row. row.0)

-- a NAK with this byte of reasons, as in NAK 14 checksum+parity; a bit without a name is not told
unfoldable pub text_of_nak : ℕ → List ℕ
text_of_nak byte = codes "NAK " ++ hex_byte byte ++ in_a_row (codes " ") (codes "+") (names_set byte nak_bits)

-- a reply: an acknowledgement, a NAK with its reasons, or the first two bytes of what was sent
unfoldable pub text_of_reply : Block → List ℕ
text_of_reply reply =
    if is_ack reply then codes "ACK"
    else (if is_nak reply then text_of_nak (first_datum reply) else text_of_head (head_of reply))

-- ---- what is known of the deck

-- a mode on which all possible states agree
unfoldable pub text_of_mode : Known Mode → List ℕ
text_of_mode (known.Is mode) = name_of_mode mode
text_of_mode known.Unknown = codes "unknown"

-- a register: clear, set at a time on which all possible states agree, set at one that is not known
unfoldable pub text_of_register : Rate → KnownEntry → List ℕ
text_of_register rate entry.Clear = codes "clear"
text_of_register rate (entry.At time) = text_of rate time
text_of_register rate entry.SetSomewhere = codes "set"
text_of_register rate entry.Unknown = codes "unknown"

-- one of two words, by a fact on which all possible states agree
abbrev pub word_of : List ℕ → List ℕ → Known Bool → List ℕ
word_of if_so if_not (known.Is true) = if_so
word_of if_so if_not (known.Is false) = if_not
word_of if_so if_not known.Unknown = codes "unknown"

-- whether the deck is in LOCAL
unfoldable pub text_of_local : Known Bool → List ℕ
text_of_local = word_of (codes "yes") (codes "no")

-- whether the panel is on; nothing is told of it where hands are not allowed
unfoldable pub text_of_panel : Hands → Known Bool → List ℕ
text_of_panel hands.None panel = []
text_of_panel hands.Allowed panel = codes ", panel " ++ word_of (codes "on") (codes "off") panel

-- what is known of the registers, of local and of the panel, field by field
abbrev pub text_of_fields : Profile → Knowledge → List ℕ
text_of_fields p k =
    (codes ", in " ++ text_of_register p.rate k.ins)
    ++ (codes ", out " ++ text_of_register p.rate k.outs)
    ++ (codes ", local " ++ text_of_local k.local)
    ++ (codes ", ain " ++ text_of_register p.rate k.ains)
    ++ (codes ", aout " ++ text_of_register p.rate k.aouts)
    ++ text_of_panel p.hands k.panel

-- what is known, field by field
unfoldable pub text_of_knowledge : Profile → Knowledge → List ℕ
text_of_knowledge p k =
    (codes "goal " ++ text_of_mode k.goal)
    ++ (codes ", shown " ++ text_of_mode k.shown)
    ++ text_of_fields p k

-- ---- what the deck may do by itself from here on

-- the modes that it may show, whatever its goal: nothing where there is none
unfoldable pub text_of_runs : ModeSet → List ℕ
text_of_runs modes = if list_any (has modes.0) every_mode then codes ", may run " ++ text_of_modes modes else []

-- the registers that it may clear
unfoldable pub text_of_losses : Lost → List ℕ
text_of_losses NoRegister = []
text_of_losses Points = codes ", may lose in|out"
text_of_losses AllRegisters = codes ", may lose in|out|ain|aout"

-- both
abbrev pub text_of_going : Going → List ℕ
text_of_going on = text_of_runs on.modes ++ text_of_losses on.lost

-- ---- the line

-- an exchange by its names, or with its bytes, by the number of its reply's last record
unfoldable pub text_in : Detail → Profile → ℕ → Exchange → List ℕ
text_in detail.Names p at e = (codes "record " ++ decimal at) ++ (codes ": " ++ text_of_command p e) ++ (codes " -> " ++ text_of_reply e.reply)
text_in detail.Bytes p at e = text_of_exchange p at e

-- the line of an exchange, by the number of its reply's last record, what is known after it, and what may be going on then
unfoldable pub line_of_exchange : Detail → Profile → ℕ → Exchange → Knowledge → Going → List ℕ
line_of_exchange detail p at e k on =
    text_in detail p at e ++ (codes ", delay " ++ decimal e.delay_us) ++ (codes ", " ++ text_of_knowledge p k) ++ text_of_going on ++ codes "\n"
