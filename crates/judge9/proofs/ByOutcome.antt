-- What is told of records, by what each of them does.
use Rattle.std.specs.Prelude.{if◌then◌else◌, ◌++◌, ◌+◌, ◌∷◌, ◌≡◌}
use Rattle.block9.specs.declared.line_rules.LineRules.{LineRules}
use Rattle.block9.specs.declared.line_rules.ReplyLimit.{ReplyLimit}
use Rattle.block9.specs.declared.line_rules.ReplyLimit.TheVariants.{Counts, LeftAside}
use Rattle.block9.specs.Exchange.{Does, TellsLate, tail_after}
use Rattle.block9.specs.Exchange.Outcome.{answers_late, asks, completes, leaves_open}
use Rattle.judge9.specs.Parts.{Event}
use Rattle.judge9.specs.Parts.Event.{exchange, late_reply}
use Rattle.judge9.specs.Working.{[], Bool, Exchange, false, LineByte, List, Outcome, ℕ}

-- the exchanges after what a record does
abbrev pub exchanges_after : List Exchange → Outcome → List Exchange
exchanges_after es leaves_open = es
exchanges_after es answers_late = es
exchanges_after es asks = es
exchanges_after es (completes e) = es ++ e ∷ []

-- what is told of the record of this number, which does this after these exchanges and this tail
abbrev pub events_by : ℕ → List Exchange → List LineByte → LineByte → Outcome → List Event
events_by at es tail r leaves_open = []
events_by at es tail r answers_late = late_reply at tail r ∷ []
events_by at es tail r asks = []
events_by at es tail r (completes e) = exchange at es e ∷ []

-- what is told of these records, one after another, which come after these exchanges and this tail, and after so many records
abbrev pub AreOutcomes : LineRules → ℕ → List Exchange → List LineByte → List LineByte → List Event → Type 0
AreOutcomes rules past es tail [] events = events ≡ []
AreOutcomes rules past es tail (r ∷ records) events =
    (o : Outcome) × (more : List Event) × Does rules tail r o
    × AreOutcomes rules (past + 1) (exchanges_after es o) (tail_after tail r o) records more × (events ≡ events_by (past + 1) es tail r o ++ more)

-- whether a record that breaks a rule after this tail begins a late reply besides, where the reply limit is left aside
abbrev pub TellsBesides : ReplyLimit → LineRules → List LineByte → LineByte → Bool → Type 0
TellsBesides Counts rules tail r late = late ≡ false
TellsBesides LeftAside rules tail r late = TellsLate rules tail r late

-- and what is told of it then
abbrev pub besides_by : ℕ → List LineByte → LineByte → Bool → List Event
besides_by at tail r late = if late then late_reply at tail r ∷ [] else []
