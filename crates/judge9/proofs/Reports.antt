-- How far a report has come, with one event more.
use Rattle.judge9.proofs.Words.{[], Advances, ap, Appends, Appends-nil, Appends-trans, Break, BrokenPart, Err, Extent, History, inl, inr, IsTextOf, IsToFirstBreak, IsTold, IsToldText, Judged}
use Rattle.judge9.proofs.Words.{JudgeError, Judging, KeepsPart, KeepsTold, Kept, List, Next, None, nothing_told, number_of, Ok, Option, part_after, Profile, Reached, refl, Result, Rows}
use Rattle.judge9.proofs.Words.{rows_allowed, Scope, Stage, Stands, sym, Tells, terms_for, Turn, View, ℕ, ◌++◌, ◌∙◌, ◌∷◌, ◌≡◌, ◌≢◌, ◌⊎◌}
use Rattle.judge9.proofs.Keeping.{keeps_next, kept_of}
use Rattle.judge9.proofs.LineSteps.{none_after}
use Rattle.judge9.proofs.Results.{judged_here, judged_refused, reached_nothing, text_of_nothing}
use Rattle.judge9.proofs.Texts.{text_next, text_silent}

-- ---- a report so far

-- a judging up to the first break has told none, or stands behind it
abbrev pub IsFirst : {R : Type 0} → Scope → History → Judging R → Type 0
IsFirst scope h j =
    scope.extent ≡ Extent.FirstBreak → (h.broken ≡ [])
    ⊎ ((b : Break) × (j.stage ≡ Stage.Broken b) × (part : BrokenPart) × (h.broken ≡ part ∷ []) × (number_of part ≡ j.feed.rows.given) × (part.reason ≡ b.reason) × IsToFirstBreak h)

pub record SoFar {R : Type 0} (view : View) (scope : Scope) (profile : Profile) (rows : Option Rows) (old now : Option (List ℕ)) (kept : Kept) (j : Judging R) : Type 0 where
  pub history : History
  pub text : List ℕ
  pub is_text : IsToldText view (terms_for scope.extent profile) history text
  pub wrote : Appends old now text
  pub reached : Reached (rows_allowed scope.extent) (terms_for scope.extent profile) scope.beginning rows history
  pub stands : Stands scope profile rows history j
  pub first : IsFirst scope history j
  -- what is kept of the part, where it is told why a part breaks
  pub keeps : view ≡ View.Why → KeepsPart history kept

-- no event was told yet
abbrev pub so_far-none : {R : Type 0} (view : View) (scope : Scope) (profile : Profile) (rows : Option Rows) (old : Option (List ℕ)) (kept : Kept) (j : Judging R) → Stands scope profile rows nothing_told j
    → (view ≡ View.Why → (kept.exchanges.items ≡ []) × (kept.end_us ≡ None)) → SoFar view scope profile rows old old kept j
so_far-none view scope profile rows old kept j stands none = record {
  history = nothing_told;
  text = [];
  is_text = text_of_nothing view (terms_for scope.extent profile);
  wrote = Appends-nil old;
  reached = reached_nothing (rows_allowed scope.extent) (terms_for scope.extent profile) scope.beginning rows;
  stands = stands;
  first = λ is. inl refl;
  keeps = λ why. record { exchanges = (none why).0; ended = record { none = λ nil. (none why).1; last = λ nil. (none why).1 } };
}

first_of : {R : Type 0} (scope : Scope) (h : History) (j : Judging R) → IsFirst scope h j → scope.extent ≡ Extent.FirstBreak → IsToFirstBreak h
first_of scope h j first is = elim (first is) [ inl none ↦ inl none | inr at ↦ at.6 ]

-- behind the first break, where the judging ends with it, comes the end
abbrev pub IsOver : {R : Type 0} → Judging R → Result Turn JudgeError → Judging R → Type 0
IsOver j result k = (b : Break) → j.scope.extent ≡ Extent.FirstBreak → j.stage ≡ Stage.Broken b → (result ≡ Ok Turn.End) × (k ≡ j)

-- so where that does not come, none broke
pub unbroken : {R : Type 0} {view : View} {scope : Scope} {profile : Profile} {rows : Option Rows} {old now : Option (List ℕ)} {kept : Kept} {j k : Judging R} {result : Result Turn JudgeError}
    (s : SoFar view scope profile rows old now kept j) → IsOver j result k → ((b : Break) → result ≡ Ok Turn.End → k.stage ≡ Stage.Broken b → ⊥) → scope.extent ≡ Extent.FirstBreak
    → s.history.broken ≡ []
unbroken {R} s over never is = elim (s.first is) [
  | inl none ↦ none
  | inr at ↦ let end = over at.0 (ap (λ (x : Scope). x.extent) s.stands.same_scope ∙ is) at.1 in
      absurd (never at.0 end.0 (ap (λ (x : Judging R). x.stage) end.1 ∙ at.1))
]

-- ---- one event more

module _ {R : Type 0} {view : View} {scope : Scope} {profile : Profile} {rows : Option Rows} {old now : Option (List ℕ)} {kept : Kept} {j k : Judging R} (s : SoFar view scope profile rows old now kept j)
    {event : Turn} (a : Advances scope profile rows s.history event k) where
  -- its text
  pub text_more : (line : List ℕ) → IsTextOf view profile k.feed kept.exchanges.items kept.end_us event line → IsToldText view (terms_for scope.extent profile) a.next (s.text ++ line)
  text_more line is =
      text_next view kept.exchanges.items kept.end_us event line (λ b t why. kept_of (s.keeps why) a t) a.tells is (text_silent a.silent s.is_text)

  module _ (over : IsOver j (Ok event) k) (other : event ≢ Turn.End) (broke : (b : Break) → event ≡ Turn.Break b → k.stage ≡ Stage.Broken b) where
    none : scope.extent ≡ Extent.FirstBreak → a.front.broken ≡ []
    none is = a.silent.broken ∙ unbroken s over (λ b end at. absurd (other (cc end))) is

    pub next_first : (event : Turn) (next : History) → Tells (terms_for scope.extent profile) a.front event next k.feed → ((b : Break) → event ≡ Turn.Break b → k.stage ≡ Stage.Broken b) → IsFirst scope next k
    next_first Turn.Exchange next t broke = λ is. inl (t.broken ∙ none is)
    next_first (Turn.LateReply r) next t broke = λ is. inl (t.broken ∙ none is)
    next_first (Turn.Break b) next t broke = λ is.
        let one : next.broken ≡ t.part ∷ [] = rw (none is) at t.broken in
        inr (b, broke b refl, t.part, one, t.number, t.reason, inr (t.part, one, t.read ∙ sym t.number, t.none_judged.0, t.told))
    next_first Turn.End next t broke = absurd t

    -- it was told
    abbrev pub so_far-more : {new : Option (List ℕ)} (after : Kept) → IsTold view profile k.feed kept.exchanges.items kept.end_us event (Ok tt) now new
        → (view ≡ View.Why → KeepsTold k.feed event kept after) → SoFar view scope profile rows old new after k
    so_far-more {new = new} after told keeps = record {
      history = a.next;
      text = s.text ++ told.0;
      is_text = text_more told.0 told.1;
      wrote = Appends-trans old now new s.text told.0 s.wrote told.2;
      reached = a.now_reached;
      stands = a.stands;
      first = next_first event a.next a.tells broke;
      keeps = λ why. keeps_next (s.keeps why) a after (keeps why);
    }

    -- or not, by one that shows the same and takes the deck for the same
    pub untold : (v : View) (p : Profile) → v ≡ view → p ≡ profile → (x : JudgeError) (new : Option (List ℕ)) → IsTold v p k.feed kept.exchanges.items kept.end_us event (Err x) now new
        → Judged view scope profile rows (Err x) old new
    untold v p same_view same_profile (JudgeError.Capture e) new told = absurd told.2
    untold v p same_view same_profile JudgeError.Write new (line, is, part) =
        judged_here (first_of scope a.next k (next_first event a.next a.tells broke)) (text_more line (rw (same_view, same_profile) at is)) a.now_reached
        JudgeError.Write tt (inl (part_after old now new s.text line s.wrote part))
    untold v p same_view same_profile JudgeError.OutOfMemory new nothing =
        judged_here (λ is. inl (none is)) (text_silent a.silent s.is_text) a.reached JudgeError.OutOfMemory tt (none_after old now new s.text s.wrote nothing)

-- an event is not the end
pub advanced : {R : Type 0} {scope : Scope} {profile : Profile} {rows : Option Rows} {h : History} {k : Judging R} (event : Turn) → event ≢ Turn.End
    → Next scope profile rows h (Ok event) k → Advances scope profile rows h event k
advanced Turn.End other a = absurd (other refl)
advanced event other a = a

-- no event came
pub failed : {R : Type 0} {view : View} {scope : Scope} {profile : Profile} {rows : Option Rows} {old now : Option (List ℕ)} {kept : Kept} {j k : Judging R}
    (s : SoFar view scope profile rows old now kept j) (x : JudgeError) → IsOver j (Err x) k → Next scope profile rows s.history (Err x) k → Judged view scope profile rows (Err x) old now
failed {scope = scope} {j = j} s x over (inl memory) =
    rw memory (judged_here (first_of scope s.history j s.first) s.is_text s.reached JudgeError.OutOfMemory tt s.wrote)
failed s x over (inr (front, silent, refused)) =
    judged_refused refused (λ is. silent.broken ∙ unbroken s over (λ b end at. cc) is) (text_silent silent s.is_text) s.wrote
