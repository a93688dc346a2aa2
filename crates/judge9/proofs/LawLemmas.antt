-- The laws on lists of records that keep the rules, on answers, on judging with hands, and on reasons.
use Rattle.judge9.proofs.Words.{[], Answer, ap, append-nil, append_assoc, Applies, arith, Breaks, cases_lt, counting, Cut, cut_once, cut_parted, drop, Exchange, exchange_kept, first_before_last}
use Rattle.judge9.proofs.Words.{first_holds, first_once, HasRun, Holds, inl, inr, IsAnswer, IsExchange, IsFirst, IsFirstBreak, IsKept, IsOk, IsPart, IsReason, IsTail, kept_by_tail, kept_less}
use Rattle.judge9.proofs.Words.{last_is_first, last_time, last_time-append, length, length-append, length_push, line_rules, LineByte, LineRules, List, None, Option, order, pairing, Part, Profile}
use Rattle.judge9.proofs.Words.{quiet_kept, rank, Reason, refl, Rows, same_parts, Some, subst, sym, take, take-append-drop, take-append-le, take-append_seam, Terms, Verdict, ℕ, ◌++◌, ◌<◌, ◌∙◌, ◌∷◌}
use Rattle.judge9.proofs.Words.{◌≡◌, ◌≢◌, ◌≤◌}
use Rattle.block9.proofs.ReasonLemmas as block
use Rattle.judge9.proofs.RunSteps.{run_less}
use Rattle.judge9.proofs.CutSteps.{cut-exchange, cut-tail, kept_grows, tail_last}

-- the tail of a cut is a tail
pub cut_tail : (rules : LineRules) (p : List LineByte) (es : List Exchange) (t : List LineByte) → Cut rules p es t → IsTail rules t
cut_tail rules p [] t h = h.1
cut_tail rules p (e ∷ es) t h = cut_tail rules h.1 es t h.4

-- records that keep all rules keep those of pairing
pub kept_of : (terms : Terms) (p : List LineByte) → IsOk terms p → IsKept (line_rules terms) p
kept_of terms p ok = record { exchanges = ok.exchanges; tail = ok.tail; cut = ok.cut }

-- so does a part
pub part_ok : {terms : Terms} {part : Part} → IsPart terms part → IsOk terms part.records
part_ok {part = part} is = record { exchanges = part.exchanges; tail = part.tail; cut = is.cut; run = is.run }

-- what holds of a list without its last element where it holds of the list holds of each first part
pub first_of : {X : Type 0} (P : List X → Type 0) → ((p : List X) (x : X) → P (p ++ x ∷ []) → P p) → (q p : List X) → P (p ++ q) → P p
first_of P less [] p k = subst P (append-nil p) k
first_of P less (x ∷ q) p k = less p x (first_of P less q (p ++ x ∷ []) (subst P (sym (append_assoc p (x ∷ []) q)) k))

-- without their last record, records that keep the rules keep them
pub ok_less : (terms : Terms) (p : List LineByte) (r : LineByte) → IsOk terms (p ++ r ∷ []) → IsOk terms p
ok_less terms p r ok =
    let kept = kept_less (line_rules terms) p r (kept_of terms (p ++ r ∷ []) ok) in
    let more = cut_parted (line_rules terms) p kept.exchanges ok.exchanges kept.tail (r ∷ []) ok.tail kept.cut ok.cut in
    record { exchanges = kept.exchanges; tail = kept.tail; cut = kept.cut; run = first_of (HasRun terms.profile) (run_less terms.profile) more.0 kept.exchanges (rw more.1 at ok.run) }

-- of two lists in one, the longer begins with the shorter
pub shorter : {X : Type 0} (a x b y : List X) → a ++ x ≡ b ++ y → length a ≤ length b → (m : List X) × (b ≡ a ++ m)
shorter a x b y e h =
    let same : a ≡ take (length a) b = sym (take-append_seam a x) ∙ ap (take (length a)) e ∙ take-append-le (length a) b y h in
    (drop (length a) b, sym (take-append-drop (length a) b) ∙ ap (λ l. l ++ drop (length a) b) (sym same))

-- one reason
pub breaks_once : (terms : Terms) (p : List LineByte) (r : LineByte) (x y : Reason) → Breaks terms p r x → Breaks terms p r y → x ≡ y
breaks_once terms p r x y b c =
    let same = cut_once (line_rules terms) p b.exchanges c.exchanges b.tail c.tail b.cut c.cut in
    first_once (Applies terms c.exchanges c.tail r) order x y (rw (same.0, same.1) at b.is_reason) c.is_reason

-- of records with a break those keep the rules that come before it, and no more
pub is_ok : {terms : Terms} {past : ℕ} {items : List LineByte} {at : ℕ} {z : Reason} → (b : IsFirstBreak terms past items at z) → IsOk terms b.before
is_ok b = record { exchanges = b.breaks.exchanges; tail = b.breaks.tail; cut = b.breaks.cut; run = b.breaks.run }

pub no_longer : {terms : Terms} {past : ℕ} {items : List LineByte} {at : ℕ} {z : Reason} → (b : IsFirstBreak terms past items at z) (p rest : List LineByte) → IsOk terms p
    → items ≡ p ++ rest → length p ≤ length b.before
no_longer {terms = terms} b p rest ok split = elim (cases_lt (length b.before) (length p)) [
  | inl more ↦ let longer = shorter (b.before ++ b.next ∷ []) b.after p rest (append_assoc b.before (b.next ∷ []) b.after ∙ sym b.split ∙ split)
      (omega (arith, length_push b.before b.next)) in
      absurd (b.breaks.not_ok (first_of (IsOk terms) (ok_less terms) longer.0 (b.before ++ b.next ∷ []) (subst (IsOk terms) longer.1 ok)))
  | inr few ↦ few
]

pub no_break : (terms : Terms) (past : ℕ) (items : List LineByte) (at : ℕ) (x : Reason) → IsOk terms items → IsFirstBreak terms past items at x → ⊥
no_break terms past items at x ok b = omega (arith, no_longer b items [] ok (sym (append-nil items)), ap length b.split, length-append b.before (b.next ∷ b.after))

pub break_once : (terms : Terms) (past : ℕ) (items : List LineByte) (m n : ℕ) (x y : Reason) → IsFirstBreak terms past items m x → IsFirstBreak terms past items n y
    → (m ≡ n) × (x ≡ y)
break_once terms past items m n x y b c =
    let few = no_longer b c.before (c.next ∷ c.after) (is_ok c) c.split in
    let many = no_longer c b.before (b.next ∷ b.after) (is_ok b) b.split in
    let parts = same_parts b.before c.before (b.next ∷ b.after) (c.next ∷ c.after) (omega arith) (sym b.split ∙ c.split) in
    let next : b.next ≡ c.next = let e = parts.1 in cc in
    (omega (arith, b.number, c.number, ap length parts.0), breaks_once terms c.before c.next x y (rw (parts.0, next) at b.breaks) c.breaks)

-- one answer at most is right for a text
pub answer_once : (profile : Profile) (past : ℕ) (rows : Rows) (a b : Answer) → IsAnswer profile past rows a → IsAnswer profile past rows b → a ≡ b
answer_once profile past rows (Answer.judged (Verdict.No at x)) (Answer.judged (Verdict.No n y)) i j = let same = break_once (counting profile) past rows.records at n x y i j in
    cc (same.0, same.1)
answer_once profile past rows (Answer.judged (Verdict.No at x)) (Answer.judged (Verdict.Yes s f u)) i j = absurd (no_break (counting profile) past rows.records at x (search (j.1.cut, j.1.run)) i)
answer_once profile past rows (Answer.judged (Verdict.No at x)) (Answer.unreadable e) i j = absurd (no_break (counting profile) past rows.records at x j.1 i)
answer_once profile past rows (Answer.judged (Verdict.Yes r e t)) (Answer.judged (Verdict.No at x)) i j = absurd (no_break (counting profile) past rows.records at x (search (i.1.cut, i.1.run)) j)
answer_once profile past rows (Answer.unreadable e) (Answer.judged (Verdict.No at x)) i j = absurd (no_break (counting profile) past rows.records at x i.1 j)
answer_once profile past rows (Answer.judged (Verdict.Yes r e t)) (Answer.judged (Verdict.Yes s f u)) i j =
    let same = cut_once (line_rules (counting profile)) rows.records i.1.cut_exchanges j.1.cut_exchanges i.1.cut_tail j.1.cut_tail i.1.cut j.1.cut in
    let counts = i.1 in
    let others = j.1 in
    cc (ap length same.0, ap length same.1)
answer_once profile past rows a b i j = cc (i.0, j.0)

-- ---- what one deck explains, another explains too that has all its runs and takes all its replies, and no break comes earlier

-- a deck, and one that cuts records alike and has all its runs
module _ (p q : Profile)
    (cut : (records : List LineByte) (es : List Exchange) (t : List LineByte) → Cut (line_rules (counting p)) records es t → Cut (line_rules (counting q)) records es t)
    (has : (es : List Exchange) → HasRun p es → HasRun q es) where
  pub yes_with_more : (past : ℕ) (rows : Rows) (records exchanges tail : ℕ) → IsAnswer p past rows (Answer.judged (Verdict.Yes records exchanges tail))
      → IsAnswer q past rows (Answer.judged (Verdict.Yes records exchanges tail))
  yes_with_more past rows records exchanges tail (whole, c) =
      search (cut rows.records c.cut_exchanges c.cut_tail c.cut, has c.cut_exchanges c.run)

  pub no_with_more : (past : ℕ) (rows : Rows) (at other : ℕ) (reason another : Reason) → IsAnswer p past rows (Answer.judged (Verdict.No at reason))
      → IsAnswer q past rows (Answer.judged (Verdict.No other another)) → at ≤ other
  no_with_more past rows at other reason another w v =
      let b = w.breaks in
      let ok : IsOk (counting q) w.before =
      record { exchanges = b.exchanges; tail = b.tail; cut = cut w.before b.exchanges b.tail b.cut; run = has b.exchanges b.run } in
      omega (arith, w.number, v.number, no_longer v w.before (w.next ∷ w.after) ok w.split)

-- ---- which reason a record gets: that of pairing where a rule of pairing is broken, and else that no run remains

-- the reasons before the last one are those of pairing
same_before_last : (terms : Terms) (es : List Exchange) (t : List LineByte) (r : LineByte) (y : Reason) → rank y < 12
    → (Holds (line_rules terms) y t r → Applies terms es t r y) × (Applies terms es t r y → Holds (line_rules terms) y t r)
same_before_last terms es t r Reason.NoRun low = absurd (omega arith)
same_before_last terms es t r y low = (λ k. k, λ k. k)

-- a reason of pairing is never that no run remains
pub pairing_reason : {rules : LineRules} {t : List LineByte} {r : LineByte} {x : Reason} → IsReason rules t r x → x ≢ Reason.NoRun
pairing_reason {rules = rules} {t = t} {r = r} {x = x} is same = subst (λ y. Holds rules y t r) same (first_holds (λ y. Holds rules y t r) order x is)

not_last : (y : Reason) → y ≢ Reason.NoRun → rank y < 12
not_last y other = grind arith

-- a reason of pairing is the reason
pub pairing_first : (terms : Terms) (es : List Exchange) (t : List LineByte) (r : LineByte) (x : Reason) → IsReason (line_rules terms) t r x → IsFirst (Applies terms es t r) order x
pairing_first terms es t r x is =
    first_before_last (λ y. Holds (line_rules terms) y t r) (Applies terms es t r) x (same_before_last terms es t r) (not_last x (pairing_reason is)) is

-- where the records are not kept, the reason is one of pairing
pub first_pairing : (terms : Terms) (es : List Exchange) (t : List LineByte) (r : LineByte) (x : Reason) → ¬ IsKept (line_rules terms) (t ++ r ∷ [])
    → IsFirst (Applies terms es t r) order x → IsReason (line_rules terms) t r x
first_pairing terms es t r x broken is =
    let low = not_last x (λ e. let k = subst (Applies terms es t r) e (first_holds (Applies terms es t r) order x is) in broken (exchange_kept (line_rules terms) (t ++ r ∷ []) k.0 k.1))
    in
    first_before_last (Applies terms es t r) (λ y. Holds (line_rules terms) y t r) x (λ y l. ((same_before_last terms es t r y l).1, (same_before_last terms es t r y l).0)) low is

-- an exchange without a run has the last reason
pub no_run_first : (terms : Terms) (es : List Exchange) (t : List LineByte) (r : LineByte) (e : Exchange) → pairing (line_rules terms) t r ≡ None → IsExchange (line_rules terms) (t ++ r ∷ []) e
    → ¬ HasRun terms.profile (es ++ e ∷ []) → IsFirst (Applies terms es t r) order Reason.NoRun
no_run_first terms es t r e quiet is none = last_is_first (Applies terms es t r) (λ y low k. block.none_holds (line_rules terms) t r quiet y ((same_before_last terms es t r y low).1 k))
    (e, is, none)

-- the reason depends on the tail alone, where the records are not kept
pub breaks_tail : (terms : Terms) (p : List LineByte) (es : List Exchange) (t : List LineByte) (r : LineByte) (x : Reason) → Cut (line_rules terms) p es t → ¬ IsKept (line_rules terms) (p ++ r ∷ [])
    → Breaks terms p r x → IsReason (line_rules terms) t r x
breaks_tail terms p es t r x cut broken b =
    let same = (cut_once (line_rules terms) p b.exchanges es b.tail t b.cut cut).1 in
    subst (λ (l : List LineByte). IsReason (line_rules terms) l r x) same
    (first_pairing terms b.exchanges b.tail r x (λ kept. broken (kept_by_tail (line_rules terms) p b.exchanges b.tail (r ∷ []) b.cut kept)) b.is_reason)

pub tail_breaks : (terms : Terms) (p : List LineByte) (es : List Exchange) (t : List LineByte) (r : LineByte) (x : Reason) → Cut (line_rules terms) p es t → HasRun terms.profile es
    → ¬ IsKept (line_rules terms) (p ++ r ∷ []) → IsReason (line_rules terms) t r x → Breaks terms p r x
tail_breaks terms p es t r x cut run broken is =
    record { exchanges = es; tail = t; cut = cut; run = run; not_ok = λ ok. broken (kept_of terms (p ++ r ∷ []) ok); is_reason = pairing_first terms es t r x is }

-- ---- some reason always applies

-- the last record of what ends a list is not after that of the list
last_time_rest : (rules : LineRules) (front rest : List LineByte) → last_time rest ≤ last_time (front ++ rest)
last_time_rest rules front [] = omega arith
last_time_rest rules front (a ∷ rest) = omega (arith, last_time-append rules front (a ∷ rest) (omega arith))

-- where the records keep the rules and with one more do not, there is a reason
pub some_reason : (terms : Terms) (p : List LineByte) (r : LineByte) → IsOk terms p → last_time p ≤ r.time_us → ¬ IsOk terms (p ++ r ∷ []) → (x : Reason) × Breaks terms p r x
some_reason terms p r ok later broken = by (pairing (line_rules terms) ok.tail r) refl
  where
    tail_later : last_time ok.tail ≤ r.time_us
    tail_later =
        let ends = tail_last (line_rules terms) p ok.exchanges ok.tail ok.cut in
        omega (arith, ap last_time ends.1, last_time_rest (line_rules terms) ends.0 ok.tail)

    reason : (x : Reason) → IsFirst (Applies terms ok.exchanges ok.tail r) order x → (x : Reason) × Breaks terms p r x
    reason x is = (x, record { exchanges = ok.exchanges; tail = ok.tail; cut = ok.cut; run = ok.run; not_ok = broken; is_reason = is })

    tail : IsTail (line_rules terms) ok.tail
    tail = cut_tail (line_rules terms) p ok.exchanges ok.tail ok.cut

    by : (o : Option Reason) → pairing (line_rules terms) ok.tail r ≡ o → (x : Reason) × Breaks terms p r x
    by None quiet = elim (kept_grows (line_rules terms) ok.tail r tail (quiet_kept (line_rules terms) ok.tail r tail tail_later quiet)) [
      | inl longer ↦ absurd (broken (search (cut-tail (line_rules terms) p ok.exchanges ok.tail r ok.cut longer, ok.run)))
      | inr whole ↦
          let cut = cut-exchange (line_rules terms) p ok.exchanges ok.tail r whole.0 ok.cut whole.1 in
          reason Reason.NoRun (no_run_first terms ok.exchanges ok.tail r whole.0 quiet whole.1
          (λ run. broken (record { exchanges = ok.exchanges ++ whole.0 ∷ []; tail = []; cut = cut; run = run })))
    ]
    by (Some x) e = reason x (pairing_first terms ok.exchanges ok.tail r x (block.table_reason (line_rules terms) ok.tail r x tail tail_later e))
