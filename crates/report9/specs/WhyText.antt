-- The text of why a verdict is a no: where no run remains a line for each of the replies that contradict one another, and
-- what the deck could show before the last of them; where a rule of pairing is broken a line for the records of the open
-- command and one for those of its reply, or one for the exchange before where none is open, and one for the record that
-- breaks; and the line of the verdict.
use Rattle.std.specs.Prelude.{ℕ, ◌+◌, ◌-◌, ◌==◌, ◌&&◌, nat_lt, not, Bool, false, if◌then◌else◌, Option, Some, None, is_none, List, [], ◌∷◌, ◌++◌, length, take, drop, codes}
use Rattle.std.specs.Fmt.{decimal}
use Rattle.std.specs.List.{list_all, list_any}
use Rattle.capture9.specs.declared.line_byte.LineByte.{LineByte}
use Rattle.capture9.specs.declared.line_byte.Wire.{Wire}
use Rattle.capture9.specs.declared.line_byte.Wire.TheVariants.{Controller, Deck}
use Rattle.block9.specs.declared.command.Command.{Command}
use Rattle.block9.specs.declared.exchange.Exchange.{Exchange}
use Rattle.block9.specs.declared.open.Open.{Open}
use Rattle.block9.specs.declared.reason.Reason.{Reason}
use Rattle.block9.specs.declared.reason.Reason.TheVariants.{NoRun, WrongSum}
use Rattle.block9.specs.Line.{bytes_of, last_time}
use Rattle.block9.specs.Reason.{limit_of}
use Rattle.deck9.specs.declared.knowledge.Knowledge.{Knowledge}
use Rattle.deck9.specs.declared.mode_set.ModeSet.{ModeSet}
use Rattle.deck9.specs.declared.profile.Profile.{Profile}
use Rattle.deck9.specs.Mode.{every_mode}
use Rattle.deck9.specs.ModeSet.{has}
use Rattle.report9.specs.declared.verdict.Verdict.TheVariants as verdict
use Rattle.report9.specs.declared.why_no.EndedExchange.{EndedExchange}
use Rattle.report9.specs.declared.why_no.WhyNo.{WhyNo}
use Rattle.report9.specs.declared.why_no.WhyNo.TheVariants as why
use Rattle.report9.specs.Bytes.{hex_byte, hex_bytes}
use Rattle.report9.specs.ExchangeBytes.{records_told, text_of_command_sent, text_of_exchange, text_of_modes, text_of_records, text_of_reply_sent, words_of}
use Rattle.report9.specs.Explanation.{text_of_fields}
use Rattle.block9.specs.Exchange.{records_in, records_of}
use Rattle.report9.specs.Lines.{line_of}

-- ---- lines

-- the lines of those exchanges that are at one of the places, whose replies contradict one another; the first of these exchanges
-- is at `place`, and the record of this number is the last before it
abbrev pub lines_at : Profile → List ℕ → ℕ → ℕ → List Exchange → List ℕ
lines_at p places place at [] = []
lines_at p places place at (e ∷ es) =
    (if list_any (λ p. p == place) places then text_of_exchange p (at + records_of e) e ++ codes "\n" else [])
    ++ lines_at p places (place + 1) (at + records_of e) es

-- the modes that the deck could show, and `any` where that is every one
unfoldable pub text_of_shown : ModeSet → List ℕ
text_of_shown set = if list_all (has set.0) every_mode then codes "any" else text_of_modes set

-- the line of what the deck could show
unfoldable pub line_of_could_show : Profile → Knowledge → ModeSet → List ℕ
line_of_could_show profile known shown = codes "could show: shown " ++ text_of_shown shown ++ text_of_fields profile known ++ codes "\n"

-- ---- the lines of a record that breaks a rule of pairing

-- the line of the exchange before, where there is one: as that of one that contradicts, without what status data say; the record
-- of this number is its last
unfoldable pub line_if_ended : Profile → ℕ → Option EndedExchange → List ℕ
line_if_ended p at None = []
line_if_ended p at (Some ended) =
    records_told at ended.exchange ++ (codes ": " ++ text_of_command_sent p ended.exchange)
    ++ (codes " -> " ++ text_of_reply_sent p ended.exchange) ++ codes "\n"

-- the record that breaks would end a block on this wire: it is on it, and the block wants one byte more than came
abbrev pub would_end : Wire → Wire → ℕ → ℕ → Bool
would_end Controller Controller came wanted = came + 1 == wanted
would_end Deck Deck came wanted = came + 1 == wanted
would_end _ _ came wanted = false

-- of what is open, how many bytes came of the block on this wire, and how many it wants: none where it is a complete command
abbrev pub came_on : Open → Wire → ℕ
came_on o Controller = o.asked
came_on o Deck = o.answered

abbrev pub wanted_on : Open → Wire → ℕ
wanted_on o Controller = if is_none o.command then o.wanted else 0
wanted_on o Deck = o.wanted

-- how many the block on the first of these wires wants, where more are missing than the record that breaks, which is on the second
abbrev pub still_wanted : Open → Wire → Wire → Option ℕ
still_wanted o wire breaking =
    if nat_lt (came_on o wire) (wanted_on o wire) && not (would_end wire breaking (came_on o wire) (wanted_on o wire))
    then Some (wanted_on o wire) else None

-- how many bytes came, and how many are wanted, where that is told
abbrev pub progress_told : ℕ → Option ℕ → List ℕ
progress_told came None = []
progress_told came (Some wanted) = (codes ", " ++ decimal came) ++ (codes " of " ++ decimal wanted) ++ codes " bytes"

-- what comes before the bytes of a block: the words of a command, where it is complete, and the arrow of a reply
abbrev pub lead_of : Profile → Open → Wire → List ℕ
lead_of p o Deck = codes "-> "
lead_of p o Controller = lead_of_command p o.command
  where
    lead_of_command : Profile → Option Command → List ℕ
    lead_of_command p None = []
    lead_of_command p (Some c) = words_of p c

-- the line of the records of an open block on the first of these wires, where there are some, before a record that breaks on the
-- second; so many records come before them
unfoldable pub line_of_open : Profile → ℕ → Open → Wire → Wire → List LineByte → List ℕ
line_of_open p at o wire breaking [] = []
line_of_open p at o wire breaking (r ∷ records) =
    text_of_records (at + 1) (at + length (r ∷ records)) r.time_us ++ (codes ": " ++ lead_of p o wire) ++ hex_bytes [] (bytes_of (r ∷ records))
    ++ progress_told (came_on o wire) (still_wanted o wire breaking) ++ codes "\n"

abbrev pub letter_of : Wire → List ℕ
letter_of Controller = codes "C "
letter_of Deck = codes "D "

-- how long a record comes after the one before: the last of those that are open, or of the exchange before, where there is
-- one; and the limit of a reason of time
abbrev pub end_before : List LineByte → Option EndedExchange → Option ℕ
end_before (first ∷ records) before = Some (last_time (first ∷ records))
end_before [] None = None
end_before [] (Some ended) = Some ended.end_us

abbrev pub since_told : Option ℕ → LineByte → List ℕ
since_told None r = []
since_told (Some end_us) r = (codes ", " ++ decimal (r.time_us - end_us)) ++ codes " after the record before"

abbrev pub limit_told : Option ℕ → List ℕ
limit_told None = []
limit_told (Some limit) = codes ", limit " ++ decimal limit

-- the right checksum of the block whose last record breaks, where its byte is a wrong one
abbrev pub sum_told : Reason → ℕ → List ℕ
sum_told WrongSum total = codes ", sum " ++ hex_byte total
sum_told _ total = []

-- the line of the record that breaks: its wire and byte, how long after the record before it comes, the limit, and the sum
unfoldable pub line_of_breaking : ℕ → Reason → LineByte → Option ℕ → ℕ → List ℕ
line_of_breaking at reason r end_us total =
    (codes "record " ++ decimal at) ++ (codes " at " ++ decimal r.time_us)
    ++ (codes ": " ++ letter_of r.wire) ++ hex_byte r.byte
    ++ since_told end_us r ++ limit_told (limit_of reason) ++ sum_told reason total ++ codes "\n"

-- the lines of the open records, which are those of a command, and after them those of its reply; so many come before them
unfoldable pub lines_of_open : Profile → ℕ → List LineByte → Open → Wire → List ℕ
lines_of_open p count tail o breaking =
    line_of_open p count o Controller breaking (take o.asked tail) ++ line_of_open p (count + o.asked) o Deck breaking (drop o.asked tail)

-- the lines of a break: that of the exchange before, or those of the open records, and that of the record that breaks
unfoldable pub lines_of_break : Profile → WhyNo → List ℕ
lines_of_break p (why.Break at reason tail o before r) =
    line_if_ended p (at - (length tail.items + 1)) before
    ++ lines_of_open p (at - (length tail.items + 1)) tail.items o r.wire
    ++ line_of_breaking at reason r (end_before tail.items before) o.sum
lines_of_break p _ = []

-- ---- the whole text

abbrev pub text_of_why : Profile → WhyNo → List ℕ
text_of_why profile (why.Break at reason tail o before r) =
    lines_of_break profile (why.Break at reason tail o before r) ++ line_of (verdict.No at reason)
text_of_why profile (why.Contradiction at exchanges places known shown) =
    lines_at profile places.items 0 (at - records_in exchanges.items) exchanges.items ++ line_of_could_show profile known shown ++ line_of (verdict.No at NoRun)
