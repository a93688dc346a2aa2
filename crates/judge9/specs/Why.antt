-- Why a part of a capture breaks, and why a reply is late.
use Rattle.std.specs.Prelude.{◌≡◌, ◌≢◌, ℕ, List, [], ◌∷◌, ◌++◌, None}
use Rattle.capture9.specs.declared.line_byte.LineByte.{LineByte}
use Rattle.block9.specs.declared.exchange.Exchange.{Exchange}
use Rattle.block9.specs.declared.line_rules.LineRules.{LineRules}
use Rattle.block9.specs.declared.reason.Reason.TheVariants.{LateReply, NoRun}
use Rattle.block9.specs.Exchange.{IsExchange}
use Rattle.block9.specs.Pairer.{IsOpenAfter}
use Rattle.why9.specs.Contradiction.{IsContradiction}
use Rattle.why9.specs.Shown.{CouldShow}
use Rattle.report9.specs.declared.why_no.WhyNo.{WhyNo}
use Rattle.report9.specs.declared.why_no.WhyNo.TheVariants as why
use Rattle.report9.specs.OpenRecords.{IsBefore}
use Rattle.judge9.specs.Parts.{BrokenPart, number_of}
use Rattle.judge9.specs.Verdict.{Terms, line_rules}

-- why a reply is late that begins with this record, the one of this number: the records of its command are open
abbrev pub SaysLate : LineRules → ℕ → List LineByte → LineByte → WhyNo → Type 0
SaysLate rules at asked r (why.Break number reason tail o before breaking) =
    (number ≡ at) × (reason ≡ LateReply) × (tail.items ≡ asked) × IsOpenAfter rules asked o × (before ≡ None) × (breaking ≡ r)
SaysLate rules at asked r _ = ⊥

-- why a part breaks: where a rule of blocks, pairing or timing is broken, the records that are open before the one that breaks it,
-- what is open in them, and, where none is, the exchange before; where no run remains, the exchanges of the part with the one that
-- the record ends, the places of replies among them that contradict one another, and what the deck could show before the last
abbrev pub IsWhy : Terms → BrokenPart → WhyNo → Type 0
IsWhy terms b (why.Break at reason tail o before r) =
    (at ≡ number_of b) × (reason ≡ b.reason) × (b.reason ≢ NoRun) × (r ≡ b.breaking) × (tail.items ≡ b.part.tail)
    × IsOpenAfter (line_rules terms) b.part.tail o × IsBefore b.part.records b.part.exchanges b.part.tail before
IsWhy terms b (why.Contradiction at exchanges places known shown) =
    (at ≡ number_of b) × (b.reason ≡ NoRun) × (e : Exchange) × IsExchange (line_rules terms) (b.part.tail ++ b.breaking ∷ []) e
    × (exchanges.items ≡ b.part.exchanges ++ e ∷ []) × IsContradiction terms.profile exchanges.items places.items
    × CouldShow terms.profile exchanges.items known shown
