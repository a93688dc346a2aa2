-- What is told of an event, by what the judging shows of it.
use Rattle.std.specs.Prelude.{◌≡◌, ◌≢◌, ◌⊎◌, ◌++◌, ◌∷◌}
use Rattle.std.specs.Io.KnownBytes.{Appends}
use Rattle.block9.specs.Exchange.{BeginsLate}
use Rattle.block9.specs.Pairer.{IsOpenAfter}
use Rattle.judge9.specs.declared.kept.Kept.{Kept}
use Rattle.judge9.specs.Keeping.{IsEnd}
use Rattle.judge9.specs.Why.{SaysLate}
use Rattle.judge9.specs.Working.{[], AppendsPart, Break, Err, Exchange, Feed, IsKnowledge, JudgeError, Knowledge, line_of_exchange, LineByte, List, None, Ok, Option, Possible, Profile, Reason, Result, Some, Turn, Verdict, View, WhyNo, ℕ}
use Rattle.block9.specs.Pairer.{Paired}
use Rattle.report9.specs.Lines.{line_of}
use Rattle.report9.specs.OpenRecords.{IsBefore}
use Rattle.report9.specs.WhyText.{text_of_why}
use Rattle.why9.specs.Contradiction.{IsContradiction}
use Rattle.why9.specs.Shown.{CouldShow}

-- the result of writing a text: it was written, a first part of it where the writer failed, and nothing where there was no memory
-- for it
abbrev pub Puts : {A : Type 0} → List ℕ → Result A JudgeError → Option (List ℕ) → Option (List ℕ) → Type 0
Puts text (Ok a) old new = Appends old new text
Puts text (Err (JudgeError.Capture e)) old new = ⊥
Puts text (Err JudgeError.Write) old new = AppendsPart old new text
Puts text (Err JudgeError.OutOfMemory) old new = Appends old new []

-- why no run remains with the last of these exchanges
abbrev pub SaysNoRun : Profile → ℕ → List Exchange → WhyNo → Type 0
SaysNoRun profile at es (WhyNo.Contradiction number exchanges places known shown) =
    (number ≡ at) × (exchanges.items ≡ es) × IsContradiction profile es places.items × CouldShow profile es known shown
SaysNoRun profile at es why = ⊥

-- why a record broke a rule: what was open before it, and these exchanges came before that, with the time at which the last of
-- them ended; or no run remains with the exchange that it completed
abbrev pub SaysWhy : Profile → ℕ → Break → Paired → List Exchange → Option ℕ → WhyNo → Type 0
SaysWhy profile at b paired es end_us (WhyNo.Break number x tail o before breaking) =
    (number ≡ at) × (x ≡ b.reason) × (breaking ≡ b.record) × (tail.items ≡ paired.tail) × IsOpenAfter paired.rules paired.tail o
    × ((records : List LineByte) → (paired.tail ≡ [] → IsEnd records es end_us) → IsBefore records es paired.tail before) × (b.reason ≢ Reason.NoRun)
SaysWhy profile at b paired es end_us (WhyNo.Contradiction number exchanges places known shown) =
    (b.reason ≡ Reason.NoRun) × (e : Exchange) × (paired.exchange ≡ Some e)
    × SaysNoRun profile at (es ++ e ∷ []) (WhyNo.Contradiction number exchanges places known shown)

-- what is written of an event, where these exchanges of its part were kept, the last of which ended at this time
abbrev pub IsTextOf : {R : Type 0} → View → Profile → Feed R → List Exchange → Option ℕ → Turn → List ℕ → Type 0
IsTextOf (View.Explain detail) profile j es end_us Turn.Exchange text =
    (e : Exchange) × (j.follower.pairer.exchange ≡ Some e) × (known : Knowledge) × IsKnowledge (Possible j.follower.tracker.states) known
    × (text ≡ line_of_exchange detail profile j.rows.given e known j.follower.tracker.going)
IsTextOf view profile j es end_us Turn.Exchange text = text ≡ []
IsTextOf View.Why profile j es end_us (Turn.LateReply r) text =
    (why : WhyNo) × ((asked : List LineByte) → BeginsLate j.follower.pairer.rules asked r → (j.follower.pairer.tail ≡ asked) ⊎ (j.follower.pairer.tail ≡ asked ++ r ∷ [])
    → SaysLate j.follower.pairer.rules j.rows.given asked r why) × (text ≡ text_of_why profile why)
IsTextOf view profile j es end_us (Turn.LateReply r) text = text ≡ line_of (Verdict.No j.rows.given Reason.LateReply)
IsTextOf View.Why profile j es end_us (Turn.Break b) text =
    (why : WhyNo) × SaysWhy profile j.rows.given b j.follower.pairer es end_us why × (text ≡ text_of_why profile why)
IsTextOf view profile j es end_us (Turn.Break b) text = text ≡ line_of (Verdict.No j.rows.given b.reason)
IsTextOf view profile j es end_us Turn.End text = text ≡ []

-- it was told, and this is the result
abbrev pub IsTold : {R : Type 0} → View → Profile → Feed R → List Exchange → Option ℕ → Turn → Result Unit JudgeError → Option (List ℕ) → Option (List ℕ) → Type 0
IsTold view profile j es end_us turn (Err JudgeError.OutOfMemory) old new = Appends old new []
IsTold view profile j es end_us turn result old new = (text : List ℕ) × IsTextOf view profile j es end_us turn text × Puts text result old new

-- what is kept behind it, to say why a part breaks: its exchanges so far
abbrev pub IsKept : {R : Type 0} → Feed R → Turn → Kept → Kept → Type 0
IsKept j Turn.Exchange old new =
    ((e : Exchange) → j.follower.pairer.exchange ≡ Some e → new.exchanges.items ≡ old.exchanges.items ++ e ∷ []) × (new.end_us ≡ j.follower.pairer.last_time)
IsKept j (Turn.Break b) old new = (new.exchanges.items ≡ []) × (new.end_us ≡ None)
IsKept j turn old new = (new.exchanges ≡ old.exchanges) × (new.end_us ≡ old.end_us)
