-- One capture, asked with each frame rate, without hands and with, and without the sheet and with it, where there is one.
use Rattle.std.specs.Prelude.{◌≡◌, ◌++◌, ◌∷◌, ◌==◌, ⊤, ℕ, Bool, true, false, if◌then◌else◌, List, [], Option, Some, None, Result, Ok, Err, codes, option_map}
use Rattle.std.specs.Fmt.{decimal}
use Rattle.std.specs.List.{flat_map}
use Rattle.tc25.specs.Word.{word_of as rate_word}
use Rattle.tc25.specs.declared.rate.Rate.{Rate}
use Rattle.tc25.specs.declared.rate.Rate.TheVariants as rate
use Rattle.capture9.specs.declared.error.CaptureKind.{CaptureKind}
use Rattle.capture9.specs.declared.error.CaptureKind.TheVariants as kind
use Rattle.deck9.specs.declared.deck.Deck.{Deck}
use Rattle.deck9.specs.declared.profile.Profile.{Profile}
use Rattle.deck9.specs.declared.state.Hands.{Hands}
use Rattle.deck9.specs.declared.state.Hands.TheVariants as hands
use Rattle.report9.specs.declared.error.JudgeError.{JudgeError}
use Rattle.report9.specs.declared.error.JudgeError.TheVariants as error
use Rattle.report9.specs.declared.totals.Totals.{Totals}
use Rattle.report9.specs.declared.verdict.Scope.{Scope}
use Rattle.report9.specs.declared.verdict.Verdict.{Verdict}
use Rattle.report9.specs.declared.verdict.Verdict.TheVariants as verdict
use Rattle.report9.specs.Lines.{line_of, line_of_totals}
use Rattle.seen9.specs.declared.seen.Ending.{Ending}
use Rattle.seen9.specs.declared.seen.Ending.TheVariants as ending
use Rattle.asking9.specs.declared.answer.Answer.{Answer}
use Rattle.asking9.specs.declared.terms.Terms.{Terms}
use Rattle.program9.specs.Word.{word_of}
use Rattle.show9.specs.Showing.{IsChecked}

-- ---- what is asked with

-- at a rate, without the sheet or with it: without hands and with
abbrev pub both : Rate → Bool → List Terms
both rate has_sheet =
    record { rate = rate; has_sheet = has_sheet; hands = hands.None } ∷ record { rate = rate; has_sheet = has_sheet; hands = hands.Allowed } ∷ []

-- at a rate: without the sheet, and with it where there is one
abbrev pub terms_at : Option Deck → Rate → List Terms
terms_at None rate = both rate false
terms_at (Some deck) rate = both rate false ++ both rate true

-- the other three rates
abbrev pub others_than : Rate → List Rate
others_than rate.Fps25 = rate.Fps24 ∷ rate.Fps30 ∷ rate.DropFrame ∷ []
others_than rate.Fps24 = rate.Fps25 ∷ rate.Fps30 ∷ rate.DropFrame ∷ []
others_than rate.Fps30 = rate.Fps25 ∷ rate.Fps24 ∷ rate.DropFrame ∷ []
others_than rate.DropFrame = rate.Fps25 ∷ rate.Fps24 ∷ rate.Fps30 ∷ []

-- at each of these rates
abbrev pub terms_at_each : Option Deck → List Rate → List Terms
terms_at_each deck [] = []
terms_at_each deck (r ∷ rates) = terms_at deck r ++ terms_at_each deck rates

-- all, in the order of the lines: one's own rate comes first
abbrev pub all_terms : Profile → List Terms
all_terms own = terms_at_each own.deck (own.rate ∷ others_than own.rate)

-- the profile that these terms ask for, where the sheet says this of the deck
abbrev pub profile_with : Option Deck → Terms → Profile
profile_with deck t = record { rate = t.rate; hands = t.hands; deck = if t.has_sheet then deck else None }

abbrev pub hands_text : Hands → List ℕ
hands_text hands.None = []
hands_text hands.Allowed = codes " --hands"

-- the options that ask so; that of the sheet stands without its file
abbrev pub words_of : Terms → List ℕ
words_of t = codes "--rate " ++ rate_word t.rate ++ (if t.has_sheet then codes " --deck" else []) ++ hands_text t.hands

-- ---- what is answered

-- these are the answers to these terms, one by one
abbrev pub AreAnswers : Scope → Option Deck → List ℕ → List Terms → List Answer → Type 0
AreAnswers scope deck text [] [] = ⊤
AreAnswers scope deck text (t ∷ ts) (a ∷ answers) = (a.terms ≡ t) × IsChecked scope (profile_with deck t) (Some text) a.ended × AreAnswers scope deck text ts answers
AreAnswers scope deck text _ _ = ⊥

-- ---- what is written

-- a yes, and of totals that no part breaks
abbrev pub is_yes : Result Ending JudgeError → Bool
is_yes (Ok (ending.Verdict (verdict.Yes records exchanges tail))) = true
is_yes (Ok (ending.Verdict (verdict.No at reason))) = false
is_yes (Ok (ending.Totals totals)) = totals.breaks == 0
is_yes (Err e) = false

-- neither a verdict nor totals
abbrev pub is_refused : Result Ending JudgeError → Bool
is_refused (Ok end) = false
is_refused (Err e) = true

-- what stands first on standard error where the reader failed at a row
abbrev pub first_line_of_read : ℕ → List ℕ
first_line_of_read row = codes "read fault at row " ++ decimal row ++ codes "\n"

-- the same where a row is bad, and this is the word for what is wrong
abbrev pub first_line_of_row : List ℕ → ℕ → List ℕ
first_line_of_row word row = codes "unreadable at row " ++ decimal row ++ codes ": " ++ word ++ codes "\n"

-- the same after a refusal of this kind at this row
abbrev pub first_line_of_fault : CaptureKind → ℕ → List ℕ
first_line_of_fault kind.Read row = first_line_of_read row
first_line_of_fault kind.OutOfMemory row = codes "out of memory\n"
first_line_of_fault k row = first_line_of_row (word_of k) row

-- the same after any refusal
abbrev pub first_line_after : JudgeError → List ℕ
first_line_after (error.Capture e) = first_line_of_fault e.kind e.row
first_line_after error.Write = codes "write fault\n"
first_line_after error.OutOfMemory = codes "out of memory\n"

-- what `check` writes last, or what stands first on standard error
abbrev pub said_of : Result Ending JudgeError → List ℕ
said_of (Ok (ending.Verdict verdict)) = line_of verdict
said_of (Ok (ending.Totals totals)) = line_of_totals totals
said_of (Err e) = first_line_after e

abbrev pub line_of_answer : Answer → List ℕ
line_of_answer a = words_of a.terms ++ codes ": " ++ said_of a.ended

abbrev pub lines_of : List Answer → List ℕ
lines_of answers = flat_map line_of_answer answers
