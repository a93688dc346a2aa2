-- Each event leaves less to do: rows that are still to come, or the same record in a part of its own.
use Rattle.judge9.proofs.Words.{[], and_parts, ap, arith, Beginning, begins_next_part, Bool, Break, cases_Bool, Comes, ComesFirst, ComesTo, Command, false, Feed, first_holds, Follower, GivesRecord}
use Rattle.judge9.proofs.Words.{greatest_limit, Holds, inl, inr, IsReason, KnowsNothing, length, length-append, LineByte, LineRules, List, Ok, Option, order, Progress, Reason, refl, Resumes}
use Rattle.judge9.proofs.Words.{ResumesAfter, Some, Spoils, Stage, sym, takes_up_at, TakesUp, TellsLate, Terms, true, Turn, Turned, weight, ℕ, ◌+◌, ◌≡◌, ◌≤◌, ◌⊎◌}
use Rattle.block9.specs.Reason.{IsAnswered}
use Rattle.judge9.proofs.PartSteps.{none_fewer}
use Rattle.judge9.proofs.TurnSteps.{none_lost, turned_by}

-- the first record of a part breaks by none of the reasons for which it would be taken up again
none_answered : (rules : LineRules) (c : Command) (reply : List LineByte) → IsAnswered rules [] c reply → ⊥
none_answered rules c reply h = omega (arith, ap length h.split, length-append h.command reply, h.begun.begun)

none_open : (rules : LineRules) (reason : Reason) (r : LineByte) → Holds rules reason [] r → takes_up_at reason ≡ false
none_open rules Reason.CommandBeforeReply r h = absurd (cc h.0.2.whole.spelled.spelled)
none_open rules Reason.NoReply r h = absurd (cc h.0.2.whole.spelled.spelled)
none_open rules Reason.CommandInsideReply r h = absurd (none_answered rules h.0.0 h.0.1 h.0.2)
none_open rules Reason.ByteGap r h = absurd (elim h.0.1 [
  | inl (same, begun) ↦ omega (arith, ap length same, begun.begun)
  | inr (c, answered) ↦ none_answered rules c h.0.0 answered
])
none_open rules reason r h = refl

-- nor does it begin a late reply
none_late : (rules : LineRules) (r : LineByte) (late : Bool) → TellsLate rules [] r late → late ≡ false
none_late rules r true tells = absurd (cc tells.asked.2.whole.spelled.spelled)
none_late rules r false tells = refl

first_break : {before after : Follower} (b : Break) → before.pairer.tail ≡ [] → Spoils before after b → (takes_up_at b.reason ≡ false) × (b.late ≡ false)
first_break {before = before} b nil (inl refused) =
    let rules = before.pairer.rules in
    let is : IsReason rules [] b.record b.reason = rw nil at refused.0.is_reason in
    (none_open rules b.reason b.record (first_holds (λ x. Holds rules x [] b.record) order b.reason is), none_late rules b.record b.late (rw nil at refused.2))
first_break b nil (inr none) = (rw none.0 refl, none.2)

pub small : (at : Stage) → weight at ≤ 4
small at = grind arith

-- ---- what a feed came to

-- a record came that was not read before, or the end
abbrev pub IsOn : {R : Type 0} → ℕ → Turn → Feed R → Type 0
IsOn given turn k = (turn ≡ Turn.End) ⊎ ((given + 1 ≤ k.rows.given) × (k.rows.given ≤ greatest_limit))

-- the event came behind some feed
abbrev pub Behind : {R : Type 0} → Turn → Feed R → Type 0
Behind {R} turn k = (front : Feed R) × Turned front (Ok turn) k

pub on_come : {R : Type 0} {j k : Feed R} (turn : Turn) → ComesTo j (Ok turn) k → IsOn j.rows.given turn k × Behind turn k
on_come {R = R} {j = j} {k = k} turn c = (by turn c.front c.turned (none_lost c), (c.front, c.turned))
  where
    by : (turn : Turn) (front : Feed R) → Turned front (Ok turn) k → j.rows.given ≤ front.rows.given → IsOn j.rows.given turn k
    by Turn.End front t low = inl refl
    by turn front t low = inr (omega (arith, t.1.gives.given, low), t.1.gives.numbered)

-- the first record of a part, which was read behind so many, and others; or that one alone, at which no part would be taken up again
abbrev pub IsFirstOn : {R : Type 0} → ℕ → Turn → Feed R → Type 0
IsFirstOn given turn k =
    IsOn (given + 1) turn k
    ⊎ ((k.rows.given ≡ given + 1) × (k.rows.given ≤ greatest_limit) × ((b : Break) → turn ≡ Turn.Break b → (takes_up_at b.reason ≡ false) × (b.late ≡ false)))

at_once : {R : Type 0} {terms : Terms} {j k : Feed R} {first : LineByte} (turn : Turn) → KnowsNothing terms j.follower → Comes j k first (Some turn) → IsFirstOn j.rows.given turn k
at_once Turn.End knows c = absurd c.took
at_once (Turn.Break b) knows c =
    inr (c.gives.given, c.gives.numbered, λ d q. let same : b ≡ d = cc in rw (sym same) (first_break b (rw knows.fed_nothing refl) c.took.1))
at_once turn knows c = inr (c.gives.given, c.gives.numbered, λ b q. absurd (cc q))

pub on_first : {R : Type 0} {terms : Terms} {before : Progress R} {first : LineByte} (turn : Turn) {k : Feed R} → Resumes terms before first (Ok turn) k
    → IsFirstOn before.given turn k × Behind turn k
on_first {R = R} {before = before} {first = first} turn {k = k} h = elim h.with_first [
  | inl refused ↦ absurd (cc refused.0)
  | inr (inl (other, is, comes)) ↦
      let j : Feed R = record { rows = before; follower = h.follower } in
      let same : other ≡ turn = cc in
      let c : Comes j k first (Some turn) = rw same at comes in (at_once turn h.knows_nothing c, (j, turned_by j k first turn c))
  | inr (inr (mid, comes, come)) ↦ let on = on_come turn come in (inl (rw comes.gives.given at on.0), on.1)
]

-- after records that were passed over
pub on_passed : {R : Type 0} {terms : Terms} {last : Option LineByte} {old : Progress R} (turn : Turn) {k : Feed R} → ResumesAfter terms last old (Ok turn) k
    → IsOn old.given turn k × Behind turn k
on_passed {R = R} {old = old} turn {k = k} h = elim h.then [
  | inl (first, may, new) ↦ let both = on_first turn new in (on both.0, both.1)
  | inr (inl (is, ends, begins)) ↦
      let front : Feed R = record { rows = h.mid; follower = k.follower } in
      let same : turn ≡ Turn.End = cc in rw same (inl refl, (front, record { ends = ends; same_follower = refl }))
  | inr (inr (e, refusal, is, knows)) ↦ absurd (cc is)
]
  where
    on : IsFirstOn h.mid.given turn k → IsOn old.given turn k
    on first = grind (arith, none_fewer old h.mid h.passed h.gives)

-- where nothing was judged yet
pub on_begun : {R : Type 0} (terms : Terms) (beginning : Beginning) (j k : Feed R) (turn : Turn) → ComesFirst terms beginning j (Ok turn) k → IsOn j.rows.given turn k × Behind turn k
on_begun terms Beginning.FirstRecord j k turn come = on_come turn come
on_begun terms Beginning.FirstCommand j k turn come = on_passed turn come

-- after a break: a record came that was not read before, or the one that breaks, as the first of the next part
pub on_up : {R : Type 0} (terms : Terms) {before : Progress R} (b : Break) (j : Feed R) (turn : Turn) (k : Feed R) → GivesRecord before b.record j.rows → TakesUp terms b j (Ok turn) k
    → (IsOn j.rows.given turn k ⊎ ((takes_up_at b.reason ≡ true) × IsFirstOn before.given turn k)) × Behind turn k
on_up terms b j turn k gives (inl (is, rest)) = absurd (cc is)
on_up terms {before = before} b j turn k gives (inr taken) = elim (cases_Bool (begins_next_part b.reason b.record)) [
  | inl is ↦ let first = on_first turn ((rw is at taken) before gives) in (inr ((and_parts (takes_up_at b.reason) _ is).0, first.0), first.1)
  | inr is ↦ let passed = on_passed turn (rw is at taken) in (inl passed.0, passed.1)
]
