-- A judging that keeps its exchanges, and the run that is found of them.
use Rattle.judge9.proofs.Words.{[], Advances, ap, arith, Break, counting, Cut, Ending, ending_of, Err, Exchange, Extent, Feed, Global, History, inl, inr, IsEnding, IsRun, IsTold, JudgeError}
use Rattle.judge9.proofs.Words.{JudgesRun, Judging, KeepsAll, Kept, length, length_push, line_rules, List, Next, None, Ok, Option, Possible, Profile, Reason, refl, Rest, Rows, RunVerdict, Scope}
use Rattle.judge9.proofs.Words.{Some, some_end, Stage, State, Stops, subst, sym, Tells, TellsExchange, terms_for, Totals, totals_of, Turn, Vec, Verdict, verdict_at, verdict_of, View, ℕ, ◌++◌, ◌+◌}
use Rattle.judge9.proofs.Words.{◌-◌, ◌∙◌, ◌∷◌, ◌≡◌, ◌≢◌}
use Rattle.judge9.proofs.Endings.{all_told, line_told}
use Rattle.judge9.proofs.PartSteps.{judged_size}
use Rattle.judge9.proofs.Reports.{failed, IsOver, so_far-more, SoFar}
use Rattle.judge9.proofs.Results.{refusal_cases}
use Rattle.judge9.proofs.Verdicts.{judged_part}

-- ---- the exchanges that are kept

-- nothing is written, so that the writer can't fail
not_write : {R : Type 0} (scope : Scope) {profile : Profile} {rows : Option Rows} {h : History} (k : Judging R) (x : JudgeError) → Next scope profile rows h (Err x) k → x ≢ JudgeError.Write
not_write scope k x (inl memory) = λ q. let no : JudgeError.OutOfMemory ≡ JudgeError.Write = sym memory ∙ q in cc
not_write scope k x (inr (front, silent, refused)) = rw refused.is_error (refusal_cases (λ y. y ≢ JudgeError.Write) refused.e.kind refused.e (λ _ q. cc) (λ q. cc))

-- a report on the verdict alone keeps nothing, and this is what it would write
pub no_why : {P : Type 0} → View.Verdict ≡ View.Why → P
no_why why = cc

pub unwritten : {R : Type 0} (profile : Profile) (j : Feed R) (es : List Exchange) (us : Option ℕ) (event : Turn) → IsTold View.Verdict profile j es us event (Ok tt) None None
unwritten profile j es us Turn.Exchange = ([], refl, tt)
unwritten profile j es us event = (_, refl, tt)

module _ {R : Type 0} {scope : Scope} {profile : Profile} {rows : Option Rows} {kept : Kept} {j k : Judging R} (s : SoFar View.Verdict scope profile rows None None kept j)
    (same : s.history.broken ≡ [] → kept.exchanges.items ≡ s.history.part.exchanges) where
  -- no event came
  pub kept_failed : (x : JudgeError) → IsOver j (Err x) k → Next scope profile rows s.history (Err x) k → KeepsAll scope profile rows (Err x) [] k
  kept_failed x over next = (not_write scope k x next, failed s x over next)

  -- the end came
  pub kept_end : IsOver j (Ok Turn.End) k → Stops scope profile rows s.history k → KeepsAll scope profile rows (Ok tt) kept.exchanges.items k
  kept_end over stops = let (all, none, exchanges) = all_told s over stops in (all, λ nil. same (none nil) ∙ sym exchanges)

  module _ {event : Turn} (a : Advances scope profile rows s.history event k) where
    abbrev pub kept_more : IsOver j (Ok event) k → event ≢ Turn.End → ((b : Break) → event ≡ Turn.Break b → k.stage ≡ Stage.Broken b) → (after : Kept)
        → SoFar View.Verdict scope profile rows None None after k
    kept_more over other broke after = so_far-more s a over other broke {new = None} after (unwritten profile k.feed kept.exchanges.items kept.end_us event) no_why

    -- the exchanges of the part as they were
    pub same_still : event ≢ Turn.Exchange → a.next.broken ≡ [] → kept.exchanges.items ≡ a.next.part.exchanges
    same_still differs none = by event a.next differs a.tells none
      where
        by : (event : Turn) (next : History) → event ≢ Turn.Exchange → Tells (terms_for scope.extent profile) a.front event next k.feed → next.broken ≡ []
            → kept.exchanges.items ≡ next.part.exchanges
        by Turn.Exchange next differs t none = absurd (differs refl)
        by (Turn.LateReply r) next differs t none = same (sym a.silent.broken ∙ sym t.broken ∙ none) ∙ sym a.silent.exchanges ∙ sym t.exchanges
        by (Turn.Break b) next differs t none = absurd (omega (arith, ap length (sym t.broken ∙ none), length_push a.front.broken t.part))
        by Turn.End next differs t none = absurd t

  -- or with the one that was told
  pub same_more : (a : Advances scope profile rows s.history Turn.Exchange k) (after : List Exchange)
      → ((e : Exchange) → k.feed.follower.pairer.exchange ≡ Some e → after ≡ kept.exchanges.items ++ e ∷ []) → a.next.broken ≡ [] → after ≡ a.next.part.exchanges
  same_more a after more none =
      let t : TellsExchange (terms_for scope.extent profile) a.front a.next k.feed = a.tells in
      more t.e t.shown ∙ ap (λ l. l ++ t.e ∷ []) (same (sym a.silent.broken ∙ sym t.broken ∙ none) ∙ sym a.silent.exchanges) ∙ sym t.exchanges

-- ---- a run

-- so many records were passed over or judged before a yes
yes_records : {records exchanges tail : ℕ} (t : Totals) (stage : Stage) → Verdict.Yes records exchanges tail ≡ verdict_at t stage → records ≡ t.records - t.passed_over
yes_records t (Stage.Broken b) is = absurd (cc is)
yes_records t stage is = cc is

module _ {R : Type 0} {scope : Scope} {profile : Profile} {rows : Option Rows} {j : Judging R} {es : List Exchange} (first : scope.extent ≡ Extent.FirstBreak)
    (keeps : KeepsAll scope profile rows (Ok tt) es j) where
  ending_is : (v : Verdict) → v ≡ verdict_of j → ending_of scope.extent j ≡ Ending.judged v
  ending_is v is = rw (first, is) refl

  -- a record breaks a rule
  pub run_missing : (at : ℕ) (reason : Reason) → Verdict.No at reason ≡ verdict_of j → JudgesRun scope profile rows (Ok (RunVerdict.No at reason))
  run_missing at reason is =
      record { judged = line_told keeps.0 (Ending.judged (Verdict.No at reason)) (ending_is (Verdict.No at reason) is) None tt; run = tt; no_write = λ q. cc }

  -- the rows came to their end
  module _ {records exchanges tail : ℕ} (is : Verdict.Yes records exchanges tail ≡ verdict_of j) where
    abbrev h : History
    h = keeps.0.told.so_far.history

    ended : IsEnding keeps.0.told.rows h keeps.0.told.so_far.is_history.left (Ending.judged (Verdict.Yes records exchanges tail))
    ended = rw (ending_is (Verdict.Yes records exchanges tail) is) at keeps.0.ending

    -- some state is left
    pub some_left : (s : State) × Possible j.feed.follower.tracker.states s
    some_left = let last = (some_end profile h.part.exchanges).1 keeps.0.told.so_far.is_history.is_part.run in (last.0, ((keeps.0.knows ended.1).states last.0).1 last.1)

    -- a yes with these states
    pub run_found : (past : ℕ) (kept : Vec Exchange Global) (states : Vec State Global) → kept.items ≡ es → IsRun profile es states.items → past ≡ (totals_of j).passed_over
        → JudgesRun scope profile rows (Ok (RunVerdict.Yes past records tail kept states))
    run_found past kept states same run past_is =
        let items : kept.items ≡ h.part.exchanges = same ∙ keeps.1 ended.1 in
        let yes = ap (λ n. Verdict.Yes records n tail) (ap length items ∙ sym ended.3) ∙ is in
        let part = judged_part keeps.0.told.so_far.is_history ended.1 ended.0.all_judged in
        let size = ap (λ (r : Rest). r.past + length r.records) part in
        let passed : past ≡ h.part.past =
        omega (arith, past_is, size, judged_size scope.beginning h.items, keeps.0.given ended.1, yes_records (totals_of j) j.stage is, ended.2) in
        let cut : Cut (line_rules (counting profile)) h.part.records h.part.exchanges h.part.tail =
        subst (λ (x : Extent). Cut (line_rules (terms_for x profile)) h.part.records h.part.exchanges h.part.tail) first keeps.0.told.so_far.is_history.is_part.cut in
        record {
          judged = line_told keeps.0 (Ending.judged (Verdict.Yes records (length kept.items) tail)) (ending_is (Verdict.Yes records (length kept.items) tail) yes) None tt;
          run = rw (ended.0.all, part) (passed ∙ sym (ap (λ (r : Rest). r.past) part), (h.part.tail, rw items cut), rw same run);
          no_write = λ q. cc;
        }
