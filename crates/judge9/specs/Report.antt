-- The text of a report, and how much of it was written.
use Rattle.std.specs.Prelude.{◌≡◌, ◌⊎◌, ℕ, List, [], ◌∷◌, ◌++◌, length, IsTrue, Option, Some, None, Result, Ok, Err, ⊤}
use Rattle.std.specs.Option.{IfNone, IfSome}
use Rattle.std.specs.Io.KnownBytes.{Appends}
use Rattle.capture9.specs.declared.error.CaptureError.{CaptureError}
use Rattle.capture9.specs.Capture.{IsStartOf}
use Rattle.capture9.specs.Error.{IsAfter, is_of_text}
use Rattle.capture9.specs.Rows.{Rows}
use Rattle.capture9.specs.SomeText.{IsOfSomeText}
use Rattle.block9.specs.declared.reason.Reason.TheVariants.{LateReply}
use Rattle.deck9.specs.Knowledge.{IsKnowledge}
use Rattle.deck9.specs.Going.{on_at_first}
use Rattle.deck9.specs.Run.{Ends, on_through}
use Rattle.deck9.specs.declared.knowledge.Knowledge.{Knowledge}
use Rattle.deck9.specs.declared.profile.Profile.{Profile}
use Rattle.report9.specs.Explanation.{line_of_exchange}
use Rattle.report9.specs.Writing.{AppendsPart}
use Rattle.report9.specs.WhyText.{text_of_why}
use Rattle.report9.specs.Lines.{line_of, line_of_totals}
use Rattle.report9.specs.declared.error.JudgeError.{JudgeError}
use Rattle.report9.specs.declared.error.JudgeError.TheVariants as error
use Rattle.report9.specs.declared.totals.Totals.{Totals}
use Rattle.report9.specs.declared.verdict.Extent.{Extent}
use Rattle.report9.specs.declared.verdict.Extent.TheVariants.{FirstBreak, WholeCapture}
use Rattle.report9.specs.declared.verdict.Scope.{Scope}
use Rattle.report9.specs.declared.verdict.Verdict.{Verdict}
use Rattle.report9.specs.declared.verdict.Verdict.TheVariants.{Yes, No}
use Rattle.report9.specs.declared.verdict.View.{View}
use Rattle.report9.specs.declared.verdict.View.TheVariants.{Explain, Why}
use Rattle.report9.specs.declared.why_no.WhyNo.{WhyNo}
use Rattle.judge9.specs.Beginning.{Rest}
use Rattle.judge9.specs.History.{History, IsHistory, told_in}
use Rattle.judge9.specs.Parts.{AreTotals, BrokenPart, Event, number_of}
use Rattle.judge9.specs.Parts.Event.{exchange, late_reply}
use Rattle.judge9.specs.Verdict.{Terms, line_rules, rows_allowed, terms_for}
use Rattle.judge9.specs.Why.{IsWhy, SaysLate}

-- ---- what is told

-- the texts of all these, one after another, where this is the text of each
abbrev pub AreTextsOf : {A : Type 0} → (A → List ℕ → Type 0) → List A → List ℕ → Type 0
AreTextsOf IsText [] text = text ≡ []
AreTextsOf IsText (x ∷ all) text =
    (first : List ℕ) × (others : List ℕ) × IsText x first × AreTextsOf IsText all others × (text ≡ first ++ others)

-- what is written of an event: where a late reply begins the line of its break, or why it is late; of an exchange what an explanation
-- shows: what is known of all states that the runs up to it end in, and what the deck may do by itself then
abbrev pub IsEventText : View → Terms → Event → List ℕ → Type 0
IsEventText Why terms (late_reply at asked r) text = (why : WhyNo) × SaysLate (line_rules terms) at asked r why × (text ≡ text_of_why terms.profile why)
IsEventText view terms (late_reply at asked r) text = text ≡ line_of (No at LateReply)
IsEventText (Explain detail) terms (exchange at before e) text =
    (known : Knowledge) × IsKnowledge (Ends terms.profile (before ++ e ∷ [])) known
    × (text ≡ line_of_exchange detail terms.profile at e known (on_through terms.profile (on_at_first terms.profile.deck) (before ++ e ∷ [])))
IsEventText view terms (exchange at before e) text = text ≡ []

-- what is written at the break of a part: its line, or why the part breaks
abbrev pub IsBreakText : View → Terms → BrokenPart → List ℕ → Type 0
IsBreakText Why terms b text = (why : WhyNo) × IsWhy terms b why × (text ≡ text_of_why terms.profile why)
IsBreakText view terms b text = text ≡ line_of (No (number_of b) b.reason)

-- what is written of a part that breaks
abbrev pub IsPartText : View → Terms → BrokenPart → List ℕ → Type 0
IsPartText view terms b text =
    (lines : List ℕ) × (end : List ℕ) × AreTextsOf (IsEventText view terms) b.events lines × IsBreakText view terms b end × (text ≡ lines ++ end)

-- the text of all that was told
pub record IsToldText (view : View) (terms : Terms) (h : History) (text : List ℕ) : Type 0 where
  pub texts : List ℕ
  pub are_texts : AreTextsOf (IsPartText view terms) h.broken texts
  pub lines : List ℕ
  pub are_lines : AreTextsOf (IsEventText view terms) (told_in h) lines
  pub whole : text ≡ texts ++ lines

-- ---- how it ends

-- how a judging ends that was not refused: up to the first break with a verdict, over all parts with totals
pub data Ending : Type 0 where
  judged : Verdict → Ending
  counted : Totals → Ending

-- a judging of this extent ends so
abbrev pub IsEndingOf : Extent → Ending → Type 0
IsEndingOf FirstBreak (judged verdict) = ⊤
IsEndingOf FirstBreak (counted totals) = ⊥
IsEndingOf WholeCapture (judged verdict) = ⊥
IsEndingOf WholeCapture (counted totals) = ⊤

-- the last line: of a yes, and of totals; a no was told at its break
abbrev pub last_line : Ending → List ℕ
last_line (judged (Yes records exchanges tail)) = line_of (Yes records exchanges tail)
last_line (judged (No at reason)) = []
last_line (counted totals) = line_of_totals totals

-- the rows have these records, and then a bad row or none, and all records were judged or passed over
pub record IsToTheEnd (rows : Rows) (h : History) (left : Rest) (fault : Option CaptureError) : Type 0 where
  pub all : rows ≡ record { records = h.items; fault = fault }
  pub all_judged : h.part.records ≡ left.records
  pub none_besides : h.besides ≡ []

abbrev pub IsEnding : Rows → History → Rest → Ending → Type 0
IsEnding rows h left (judged (Yes records exchanges tail)) =
    IsToTheEnd rows h left None × (h.broken ≡ []) × (records ≡ length h.part.records) × (exchanges ≡ length h.part.exchanges) × (tail ≡ length h.part.tail)
IsEnding rows h left (judged (No at reason)) = (b : BrokenPart) × (h.broken ≡ b ∷ []) × (at ≡ number_of b) × (reason ≡ b.reason)
IsEnding rows h left (counted totals) = IsToTheEnd rows h left None × AreTotals (length h.items) h.broken h.part totals

-- where a judging ends with the first break, nothing was told or read after it
abbrev pub IsToFirstBreak : History → Type 0
IsToFirstBreak h =
    (h.broken ≡ []) ⊎ ((b : BrokenPart) × (h.broken ≡ b ∷ []) × (length h.items ≡ number_of b) × (h.part.records ≡ []) × (told_in h ≡ []))

-- the records are all those before the row of this refusal, and where it is a fault of the text, that is the fault of the rows
pub record IsRefusedAfter (limit : ℕ) (rows : Rows) (h : History) (left : Rest) (e : CaptureError) : Type 0 where
  pub place : IsAfter limit h.items e
  pub all_judged : h.part.records ≡ left.records
  pub none_besides : h.besides ≡ []
  pub fault : IsTrue (is_of_text e.kind) → rows ≡ record { records = h.items; fault = Some e }

-- ---- what was written

-- by the result: the text and the last line; at a refusal of the capture the text; where the writer failed a first part of these;
-- where memory ran out the text
abbrev pub Written : Extent → Rows → History → Rest → List ℕ → Result Ending JudgeError → Option (List ℕ) → Option (List ℕ) → Type 0
Written extent rows h left text (Ok end) old new = IsEnding rows h left end × Appends old new (text ++ last_line end)
Written extent rows h left text (Err (error.Capture e)) old new = IsRefusedAfter (rows_allowed extent) rows h left e × Appends old new text
Written extent rows h left text (Err error.Write) old new =
    AppendsPart old new text ⊎ ((end : Ending) × IsEndingOf extent end × IsEnding rows h left end × AppendsPart old new (text ++ last_line end))
Written extent rows h left text (Err error.OutOfMemory) old new = Appends old new text

-- how far a judging came in these rows, and the text of what was told of them
pub record ToldSoFar (view : View) (scope : Scope) (profile : Profile) (rows : Rows) : Type 0 where
  pub history : History
  pub start : IsStartOf history.items rows.records
  pub is_history : IsHistory (terms_for scope.extent profile) scope.beginning history
  pub first : scope.extent ≡ FirstBreak → IsToFirstBreak history
  pub text : List ℕ
  pub is_text : IsToldText view (terms_for scope.extent profile) history text

-- the rows that a judging speaks of, how far it came in them, and what was written. The rows are those of the text, where the reader
-- tells its bytes; else they are what it gave, and are those of some text
pub record Told (view : View) (scope : Scope) (profile : Profile) (known : Option Rows) (result : Result Ending JudgeError) (old new : Option (List ℕ)) : Type 0 where
  pub rows : Rows
  pub is_known : IfSome known (λ all. rows ≡ all)
  pub of_a_text : IfNone known (IsOfSomeText (rows_allowed scope.extent) rows)
  pub so_far : ToldSoFar view scope profile rows
  pub written : Written scope.extent rows so_far.history so_far.is_history.left so_far.text result old new

-- the ending of a judging up to its first break, and of one over all parts
abbrev pub by_verdict : Result Verdict JudgeError → Result Ending JudgeError
by_verdict (Ok verdict) = Ok (judged verdict)
by_verdict (Err e) = Err e

abbrev pub by_totals : Result Totals JudgeError → Result Ending JudgeError
by_totals (Ok totals) = Ok (counted totals)
by_totals (Err e) = Err e

-- ---- the whole text

-- the whole text of a report on these rows, where nothing fails: what is told of all of them, or up to the first break, and the last
-- line; at a bad row what is told of all records before it
pub record IsText (view : View) (scope : Scope) (profile : Profile) (rows : Rows) (whole : List ℕ) : Type 0 where
  pub so_far : ToldSoFar view scope profile rows
  pub ends : ((end : Ending) × IsEndingOf scope.extent end × IsEnding rows so_far.history so_far.is_history.left end × (whole ≡ so_far.text ++ last_line end))
      ⊎ ((e : CaptureError) × IsToTheEnd rows so_far.history so_far.is_history.left (Some e) × (whole ≡ so_far.text))
