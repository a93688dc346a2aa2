-- What a result says where nothing more is said of the rows, and where the capture is refused.
use Rattle.judge9.proofs.Words.{[], Appends, Appends-nil, Beginning, Bool, CaptureError, CaptureKind, Ending, Err, Extent, false, false≢true, Feed, given-refused, HasHeader, History, IfSome}
use Rattle.judge9.proofs.Words.{if◌then◌else◌, inl, is_of_text, IsHistory, IsPlaced, IsRefusal, IsRefused, IsTail, IsToFirstBreak, IsToldText, IsTrue, Judged, JudgeError, List, no_rows-can_be, None}
use Rattle.judge9.proofs.Words.{nothing_told, Option, Profile, Reached, refl, refusal_by, refused-after, Result, Rows, rows_allowed, run_start, Scope, Some, sym, Terms, terms_for, Told, true, View}
use Rattle.judge9.proofs.Words.{WereRead, Written, ℕ, ◌∙◌, ◌≡◌, ◌≢◌}
use Rattle.judge9.proofs.PartSteps.{from_none}
use Rattle.judge9.proofs.ReadSteps.{given_of, Seen, seen, unread}

-- a refusal of the capture stays whole, or is that memory ran out
pub refusal_cases : (P : JudgeError → Type 0) (k : CaptureKind) (e : CaptureError) → (k ≢ CaptureKind.OutOfMemory → P (JudgeError.Capture e))
    → P JudgeError.OutOfMemory → P (refusal_by k e)
refusal_cases P CaptureKind.OutOfMemory e whole memory = memory
refusal_cases P k e whole memory = whole (λ same. cc)

-- the rows that were read so far
pub seen_of : {limit : ℕ} {terms : Terms} {beginning : Beginning} {rows : Option Rows} {h : History} (r : Reached limit terms beginning rows h) → Seen limit rows r.were_given.left h.items None
seen_of {limit = limit} {rows = rows} {h = h} r = seen limit rows r.were_given.left h.items None r.were_given.read r.were_given.can_be

module _ {view : View} {scope : Scope} {profile : Profile} {rows : Option Rows} {h : History} {text : List ℕ} {old new : Option (List ℕ)}
    (first : scope.extent ≡ Extent.FirstBreak → IsToFirstBreak h) (is : IsToldText view (terms_for scope.extent profile) h text) where
  -- of the rows that were seen
  abbrev pub told_by : {left : Option Rows} {fault : Option CaptureError} (s : Seen (rows_allowed scope.extent) rows left h.items fault)
      (history : IsHistory (terms_for scope.extent profile) scope.beginning h) → (x : Result Ending JudgeError) → Written scope.extent s.all h history.left text x old new
      → Told view scope profile rows x old new
  told_by s history x written = record {
    rows = s.all;
    is_known = s.is_known;
    of_a_text = s.of_a_text;
    so_far = record { history = h; start = s.start; is_history = history; first = first; text = text; is_text = is };
    written = written;
  }

  pub judged_here : (r : Reached (rows_allowed scope.extent) (terms_for scope.extent profile) scope.beginning rows h) → (x : JudgeError) → IsRefusal scope rows h x
      → Written scope.extent (seen_of r).all h r.is_history.left text (Err x) old new → Judged view scope profile rows (Err x) old new
  judged_here r x refusal written = record { told = told_by (seen_of r) r.is_history (Err x) written; refusal = refusal }

-- ---- nothing was told

pub reached_nothing : (limit : ℕ) (terms : Terms) (beginning : Beginning) (rows : Option Rows) → Reached limit terms beginning rows nothing_told
reached_nothing limit terms beginning rows = record {
  is_history = record {
    left = record { past = 0; records = [] };
    parts = sym (from_none beginning).same;
    is_part = record { cut = (refl, IsTail.nothing refl); run = run_start terms.profile; are_events = refl };
    past = refl;
    begins = ([], refl);
    besides = inl refl;
  };
  were_given = record { left = rows; read = unread rows; can_be = no_rows-can_be limit };
}

pub text_of_nothing : (view : View) (terms : Terms) → IsToldText view terms nothing_told []
text_of_nothing view terms = record { texts = []; are_texts = refl; lines = []; are_lines = refl; whole = refl }

-- there was no memory to begin with
pub judged_nothing : (view : View) (scope : Scope) (profile : Profile) (rows : Option Rows) (old : Option (List ℕ)) → Judged view scope profile rows (Err JudgeError.OutOfMemory) old old
judged_nothing view scope profile rows old = judged_here (λ first. inl refl) (text_of_nothing view (terms_for scope.extent profile))
    (reached_nothing (rows_allowed scope.extent) (terms_for scope.extent profile) scope.beginning rows) JudgeError.OutOfMemory tt (Appends-nil old)

-- ---- the capture is refused

module _ {R : Type 0} {limit : ℕ} {terms : Terms} {beginning : Beginning} {rows : Option Rows} {h : History} {x : JudgeError} {j : Feed R} (refused : IsRefused limit terms beginning rows h x j) where
  headed : (b : Bool) → IsPlaced refused.before.most_rows b j.rows.given refused.e → refused.e.row ≢ 0 → b ≡ true
  headed true placed low = refl
  headed false placed low = absurd (low placed.row)

  has_header : (o : Option Rows) → WereRead o h.items refused.before.rows → IfSome o (λ all. refused.e.row ≢ 0 → HasHeader all)
  has_header None read = tt
  has_header (Some all) read = λ low.
      let has : HasHeader read.0 = rw read.1 at (refused.refusal.has_header (headed j.rows.is_headed refused.refusal.place low)) in rw read.2 has

  refused_rows : (b : Bool) → is_of_text refused.e.kind ≡ b → (s : Seen limit rows refused.before.rows h.items (if b then Some refused.e else None))
      × (IsTrue (is_of_text refused.e.kind) → s.all ≡ record { records = h.items; fault = Some refused.e })
  refused_rows true t =
      let s = seen limit rows refused.before.rows h.items (Some refused.e) refused.are_read.read
      (given-refused h.items refused.before j.rows refused.e (given_of refused.are_read) refused.are_read.is_reading refused.refusal t) in
      (s, λ _. s.whole (refused.refusal.fault t))
  refused_rows false t =
      (seen limit rows refused.before.rows h.items None refused.are_read.read refused.are_read.can_be, λ is. absurd (false≢true (sym t ∙ is)))

module _ {R : Type 0} {view : View} {scope : Scope} {profile : Profile} {rows : Option Rows} {h : History} {text : List ℕ} {old now : Option (List ℕ)} {x : JudgeError} {j : Feed R}
    (refused : IsRefused (rows_allowed scope.extent) (terms_for scope.extent profile) scope.beginning rows h x j) (none : scope.extent ≡ Extent.FirstBreak → h.broken ≡ [])
    (is : IsToldText view (terms_for scope.extent profile) h text) (wrote : Appends old now text) where
  whole : refused.e.kind ≢ CaptureKind.OutOfMemory → Judged view scope profile rows (Err (JudgeError.Capture refused.e)) old now
  whole other =
      let known = refused_rows refused (is_of_text refused.e.kind) refl in
      let place = refused-after refused.before j.rows refused.e h.items refused.refusal refused.are_read.same_limit refused.are_read.given in
      record {
        told = told_by (λ first. inl (none first)) is known.0 refused.is_history (Err (JudgeError.Capture refused.e))
            (record { place = place; all_judged = refused.all_judged; none_besides = refused.none_besides; fault = known.1 }, wrote);
        refusal = (other, has_header refused rows refused.are_read.read, none);
      }

  pub judged_refused : Judged view scope profile rows (Err x) old now
  judged_refused = rw refused.is_error (refusal_cases (λ y. Judged view scope profile rows (Err y) old now) refused.e.kind refused.e whole
      (judged_here (λ first. inl (none first)) is
      (record { is_history = refused.is_history; were_given = record { left = refused.before.rows; read = refused.are_read.read; can_be = refused.are_read.can_be } })
      JudgeError.OutOfMemory tt wrote))
