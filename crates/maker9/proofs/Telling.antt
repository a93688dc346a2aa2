-- What is told where memory is refused.
use Rattle.std.proofs.Common.{Err, inl, List, None, Option, refl, Some, ℕ}
use Rattle.std.specs.Io.KnownBytes.{Keeps}
use Rattle.deck9.specs.declared.profile.Profile.{Profile}
use Rattle.report9.specs.declared.error.JudgeError.TheVariants as error
use Rattle.report9.specs.declared.verdict.Scope.{Scope}
use Rattle.asking9.specs.declared.answer.Answer.{Answer}
use Rattle.maker9.specs.Trying.{MayTell, TellsAnswers}

keeps_same : (known : Option (List ℕ)) → Keeps known known
keeps_same None = tt
keeps_same (Some bytes) = refl

-- where memory is refused, nothing is written
pub unkept : (scope : Scope) (own : Profile) (capture old : Option (List ℕ)) → TellsAnswers scope own capture old (Err error.OutOfMemory) old
unkept scope own capture old = inl (inl refl, keeps_same old)

pub untold : (answers : List Answer) (old : Option (List ℕ)) → MayTell answers (Err error.OutOfMemory) old old
untold answers old = inl (refl, keeps_same old)
