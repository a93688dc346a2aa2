-- How a judging is marked with what its feed came to.
use Rattle.std.specs.Prelude.{◌≡◌, ◌⊎◌, ◌+◌, ◌<◌, ◌^◌, ℕ, Bool, true, false, Some, Result, Ok, Err}
use Rattle.block9.specs.declared.exchange.Exchange.{Exchange}
use Rattle.block9.specs.Exchange.{records_of}
use Rattle.report9.specs.declared.error.JudgeError.{JudgeError}
use Rattle.report9.specs.declared.verdict.Extent.{Extent}
use Rattle.report9.specs.declared.verdict.Extent.TheVariants.{FirstBreak, WholeCapture}
use Rattle.judge9.specs.declared.event.Break.{Break}
use Rattle.judge9.specs.declared.event.Event.{Event}
use Rattle.judge9.specs.declared.event.Event.TheVariants as event
use Rattle.judge9.specs.declared.judging.Judging.{Judging}
use Rattle.judge9.specs.declared.stage.Stage.{Stage}
use Rattle.judge9.specs.declared.stage.Stage.TheVariants as stage

-- a count grows by so many, as long as it stays below `limit`
abbrev pub GrowsBy : ℕ → ℕ → ℕ → ℕ → Type 0
GrowsBy limit more old new = old + more < limit → new ≡ old + more

-- a late reply is told of a record that breaks a rule, besides its break: where the reply limit is left aside, and the record begins one
abbrev pub late_besides : Extent → Break → Bool
late_besides FirstBreak b = false
late_besides WholeCapture b = b.late

-- what is told of a record that breaks a rule, and where the judging stands then
abbrev pub MarksBreak : {R : Type 0} → Judging R → Break → Event → Stage → Type 0
MarksBreak j b told at =
    ((told ≡ event.Break b) × (at ≡ stage.Broken b) × (late_besides j.scope.extent b ≡ false))
    ⊎ ((told ≡ event.LateReply b.record) × (at ≡ stage.LateTold b) × (late_besides j.scope.extent b ≡ true))

-- the feed came to this event, and this is told: where the judging stands then, and what it counts
abbrev pub Marks : {R : Type 0} → Judging R → Event → Event → Judging R → Type 0
Marks old event.Exchange told new =
    (told ≡ event.Exchange) × (new.stage ≡ stage.Going) × (new.counts.breaks ≡ old.counts.breaks) × GrowsBy (2 ^ 32) 1 old.counts.exchanges new.counts.exchanges
    × ((e : Exchange) → old.feed.follower.pairer.exchange ≡ Some e → GrowsBy (2 ^ 32) (records_of e) old.counts.records new.counts.records)
Marks old (event.LateReply r) told new =
    (told ≡ event.LateReply r) × (new.stage ≡ stage.Going) × GrowsBy (2 ^ 64) 1 old.counts.breaks new.counts.breaks
    × (new.counts.exchanges ≡ old.counts.exchanges) × (new.counts.records ≡ old.counts.records)
Marks old (event.Break b) told new =
    MarksBreak old b told new.stage × GrowsBy (2 ^ 64) 1 old.counts.breaks new.counts.breaks
    × (new.counts.exchanges ≡ old.counts.exchanges) × (new.counts.records ≡ old.counts.records)
Marks old event.End told new = (told ≡ event.End) × (new.stage ≡ stage.Ended) × (new.counts ≡ old.counts)

pub record IsMarked {R : Type 0} (old : Judging R) (e told : Event) (new : Judging R) : Type 0 where
  pub feed : new.feed ≡ old.feed
  pub scope : new.scope ≡ old.scope
  pub profile : new.profile.now ≡ old.profile.now
  pub marks : Marks old e told new

-- what is told of what the feed came to, which may be an error
abbrev pub IsToldOf : {R : Type 0} → Judging R → Result Event JudgeError → Result Event JudgeError → Judging R → Type 0
IsToldOf old (Ok e) (Ok told) new = IsMarked old e told new
IsToldOf old (Ok e) (Err x) new = ⊥
IsToldOf old (Err x) result new = (result ≡ Err x) × (new ≡ old)
