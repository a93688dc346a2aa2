-- How `try` ends: a capture is kept, and asked with all terms.
use Rattle.std.specs.Prelude.{◌≡◌, ◌⊎◌, ◌∷◌, ℕ, Bool, true, false, if◌then◌else◌, List, [], Option, Result, Ok, Err, IfSome}
use Rattle.std.specs.Io.KnownBytes.{Keeps}
use Rattle.std.specs.List.{list_all, list_any}
use Rattle.deck9.specs.declared.profile.Profile.{Profile}
use Rattle.report9.specs.declared.error.JudgeError.{JudgeError}
use Rattle.report9.specs.declared.error.JudgeError.TheVariants as error
use Rattle.report9.specs.declared.verdict.Scope.{Scope}
use Rattle.report9.specs.Writing.{Writes}
use Rattle.program9.specs.declared.ending.Message.{Message}
use Rattle.program9.specs.declared.ending.Message.TheVariants as message
use Rattle.program9.specs.declared.ending.Outcome.{Outcome}
use Rattle.program9.specs.Judging.{IsHint}
use Rattle.program9.specs.Opening.{no_memory}
use Rattle.asking9.specs.declared.answer.Answer.{Answer}
use Rattle.asking9.specs.Asking.{AreAnswers, all_terms, is_refused, is_yes, lines_of}
use Rattle.maker9.specs.Outcome.{outcome_made}

-- all were refused
abbrev pub all_refused : List Answer → Bool
all_refused answers = list_all (λ a. is_refused a.ended) answers

-- the end where all were refused: that of the first. There always is one
abbrev pub end_of_refused : List Answer → Outcome
end_of_refused [] = no_memory
end_of_refused (first ∷ others) = outcome_made first.ended

-- the status where one at least was not: 0 where one is a yes
abbrev pub status_of : List Answer → ℕ
status_of answers = if list_any (λ a. is_yes a.ended) answers then 0 else 1

-- so the lines of these answers were written, where not all were refused
abbrev pub EndsWritten : List Answer → Result Outcome JudgeError → Type 0
EndsWritten answers (Ok end) = (said : Message) × IsHint said × (end ≡ record { status = status_of answers; message = said })
EndsWritten answers (Err e) = e ≡ error.Write

-- where all were refused, the end is that of the first, and nothing is written; else a line for each is
abbrev pub WritesAnswers : Bool → List Answer → Result Outcome JudgeError → Option (List ℕ) → Option (List ℕ) → Type 0
WritesAnswers true answers told old all = (told ≡ Ok (end_of_refused answers)) × Keeps old all
WritesAnswers false answers told old all = EndsWritten answers told × Writes (lines_of answers) told old all

-- the same, or memory was refused for the lines, and nothing is written
abbrev pub MayTell : List Answer → Result Outcome JudgeError → Option (List ℕ) → Option (List ℕ) → Type 0
MayTell answers told old all = ((told ≡ Err error.OutOfMemory) × Keeps old all) ⊎ WritesAnswers (all_refused answers) answers told old all

-- the capture was kept and asked with all terms, by one whose own rate and sheet these are, and told so
pub record AsksEach (scope : Scope) (own : Profile) (capture : Option (List ℕ)) (old : Option (List ℕ)) (told : Result Outcome JudgeError) (all : Option (List ℕ)) : Type 0 where
  pub text : List ℕ
  pub is_text : IfSome capture (λ known. text ≡ known)
  pub answers : List Answer
  pub are_answers : AreAnswers scope own.deck text (all_terms own) answers
  pub tells : MayTell answers told old all

-- the capture could not be read to its end, or memory was refused for it or for its answers
abbrev pub IsUnkept : Result Outcome JudgeError → Type 0
IsUnkept told = (told ≡ Err error.OutOfMemory) ⊎ (told ≡ Ok (record { status = 4; message = message.TextFault }))

-- a capture is asked with all terms: how that is told, and what the writer holds before and after
abbrev pub TellsAnswers : Scope → Profile → Option (List ℕ) → Option (List ℕ) → Result Outcome JudgeError → Option (List ℕ) → Type 0
TellsAnswers scope own capture old told all = (IsUnkept told × Keeps old all) ⊎ AsksEach scope own capture old told all
