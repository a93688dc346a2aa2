-- How a report on a capture ends, and a judging that keeps its exchanges.
use Rattle.std.specs.Prelude.{◌≡◌, ◌≢◌}
use Rattle.capture9.specs.Rows.{HasHeader}
use Rattle.judge9.specs.declared.judging.Judging.{Judging}
use Rattle.judge9.specs.History.{History}
use Rattle.judge9.specs.Report.{Ending, IsEnding, Told, by_verdict}
use Rattle.judge9.specs.Report.Ending.{counted, judged}
use Rattle.judge9.specs.RunVerdict.{HasItsRun, judged_of}
use Rattle.judge9.specs.Standing.{totals_of, verdict_of}
use Rattle.judge9.specs.Working.{[], CaptureKind, Err, Exchange, IfErr, IfOk, IfSome, JudgeError, length, List, None, Ok, Option, Profile, Result, Rows, RunVerdict, View, ℕ, ⊤}
use Rattle.report9.specs.declared.verdict.Extent.{Extent}
use Rattle.report9.specs.declared.verdict.Extent.TheVariants.{FirstBreak, WholeCapture}
use Rattle.report9.specs.declared.verdict.Scope.{Scope}
use Rattle.track9.specs.Following.{KeepsEnds}

abbrev pub ending_of : {R : Type 0} → Extent → Judging R → Ending
ending_of FirstBreak j = judged (verdict_of j)
ending_of WholeCapture j = counted (totals_of j)

-- what is said of a refusal of the capture, besides the records before it
abbrev pub IsRefusal : Scope → Option Rows → History → JudgeError → Type 0
IsRefusal scope rows h (JudgeError.Capture e) =
    (e.kind ≢ CaptureKind.OutOfMemory) × IfSome rows (λ all. e.row ≢ 0 → HasHeader all) × (scope.extent ≡ FirstBreak → h.broken ≡ [])
IsRefusal scope rows h x = ⊤

-- what every result promises
pub record Judged (view : View) (scope : Scope) (profile : Profile) (rows : Option Rows) (result : Result Ending JudgeError) (old new : Option (List ℕ)) : Type 0 where
  pub told : Told view scope profile rows result old new
  pub refusal : IfErr result (IsRefusal scope rows told.so_far.history)

-- a judging has ended, and all its events were told: as much was written as where there is no memory for the last line
pub record AllTold {R : Type 0} (view : View) (scope : Scope) (profile : Profile) (rows : Option Rows) (j : Judging R) (old new : Option (List ℕ)) : Type 0 where
  pub told : Told view scope profile rows (Err JudgeError.OutOfMemory) old new
  pub ending : IsEnding told.rows told.so_far.history told.so_far.is_history.left (ending_of scope.extent j)
  -- where no part broke, all records were read, and the tracker keeps the states in which the runs end
  pub given : told.so_far.history.broken ≡ [] → j.feed.rows.given ≡ length told.so_far.history.items
  pub knows : told.so_far.history.broken ≡ [] → KeepsEnds profile told.so_far.history.part.exchanges j.feed.follower.tracker

abbrev pub IsAllTold : {R : Type 0} → View → Scope → Profile → Option Rows → Result Unit JudgeError → Judging R → Option (List ℕ) → Option (List ℕ) → Type 0
IsAllTold view scope profile rows (Ok done) j old new = AllTold view scope profile rows j old new
IsAllTold view scope profile rows (Err x) j old new = Judged view scope profile rows (Err x) old new

-- ---- a judging that keeps its exchanges, and writes nothing

abbrev pub KeepsAll : {R : Type 0} → Scope → Profile → Option Rows → Result Unit JudgeError → List Exchange → Judging R → Type 0
KeepsAll scope profile rows (Ok done) es j =
    (all : AllTold View.Verdict scope profile rows j None None) × (all.told.so_far.history.broken ≡ [] → es ≡ all.told.so_far.history.part.exchanges)
KeepsAll scope profile rows (Err x) es j = (x ≢ JudgeError.Write) × Judged View.Verdict scope profile rows (Err x) None None

pub record JudgesRun (scope : Scope) (profile : Profile) (rows : Option Rows) (result : Result RunVerdict JudgeError) : Type 0 where
  pub judged : Judged View.Verdict scope profile rows (by_verdict (judged_of result)) None None
  pub run : IfOk result (HasItsRun scope.beginning profile judged.told.rows)
  pub no_write : result ≢ Err JudgeError.Write
