-- What `run` answers where what it is told to is at fault, and not the capture.
use Rattle.std.proofs.Common.{◌≡◌}
use Rattle.std.specs.Prelude.{Err, ℕ, List, Ok, Option, Result}
use Rattle.deck9.specs.declared.profile.Profile.{Profile}
use Rattle.report9.specs.declared.error.JudgeError.{JudgeError}
use Rattle.report9.specs.declared.verdict.Beginning.{Beginning}
use Rattle.report9.specs.declared.verdict.Extent.TheVariants as extent
use Rattle.report9.specs.declared.verdict.Verdict.{Verdict}
use Rattle.judge9.specs.Judging.{Answers}
use Rattle.show9.specs.Showing.{by_verdict, IsOfView}
use Rattle.show9.proofs.Shown.{checked_view}

module _ (beginning : Beginning) (profile : Profile) (text : Option (List ℕ)) (e : JudgeError) where
  same_fault : (judged : Result Verdict JudgeError) → Answers beginning profile text judged → Err e ≡ by_verdict judged → Answers beginning profile text (Err e)
  same_fault (Ok verdict) answers same = absurd (cc)
  same_fault (Err fault) answers same = let is : e ≡ fault = cc in rw is answers

  -- the same as `check` to the first break
  pub view_answers : IsOfView e → Answers beginning profile text (Err e)
  view_answers is = let (judged, answers, same) = checked_view profile beginning text extent.FirstBreak e is in same_fault judged answers same
