-- What is kept of a part, with one event more.
use Rattle.judge9.proofs.Words.{[], Advances, ap, arith, BeginsLate, Break, BreaksAtLast, EndedAt, Exchange, Feed, Global, History, inl, inr, IsEnd, Judging, KeepsPart, KeepsTold, Kept, last_time}
use Rattle.judge9.proofs.Words.{length, length_push, LineByte, List, Option, Part, Profile, Reason, refl, Rows, SaysLate, SaysWhy, Scope, Some, sym, Tells, TellsBreak, TellsLateReply, TellsWhy}
use Rattle.judge9.proofs.Words.{Terms, terms_for, Turn, Vec, WhyNo, ℕ, ◌++◌, ◌∙◌, ◌∷◌, ◌≡◌, ◌⊎◌}
use Rattle.judge9.proofs.Texts.{why_text}

-- the time at which exchanges ended, where one was told last
ends-more : (records : List LineByte) (es : List Exchange) (e : Exchange) (us : Option ℕ) → us ≡ Some (last_time records) → IsEnd records (es ++ e ∷ []) us
ends-more records [] e us is = is
ends-more records (x ∷ es) e us is = is

ended_more : (part : Part) (es : List Exchange) (e : Exchange) (us : Option ℕ) → part.exchanges ≡ es ++ e ∷ [] → us ≡ Some (last_time part.records) → EndedAt part us
ended_more part es e us exchanges is = record {
  none = λ nil. absurd (omega (arith, ap length (sym exchanges ∙ nil), length_push es e));
  last = λ nil. rw exchanges (ends-more part.records es e us is);
}

ended_on : (p q : Part) (us : Option ℕ) → EndedAt p us → q.exchanges ≡ p.exchanges → (q.tail ≡ [] → (q.exchanges ≡ []) ⊎ ((q.records ≡ p.records) × (p.tail ≡ []))) → EndedAt q us
ended_on p q us h exchanges still = record {
  none = λ nil. h.none (sym exchanges ∙ nil);
  last = λ nil. elim (still nil) [
    | inl none ↦ rw none (h.none (sym exchanges ∙ none))
    | inr (records, tail) ↦ rw (records, exchanges) (h.last tail)
  ];
}

module _ {R : Type 0} {scope : Scope} {profile : Profile} {rows : Option Rows} {h : History} {kept : Kept} {k : Judging R} {event : Turn} (keeps : KeepsPart h kept) (a : Advances scope profile rows h event k) where
  -- of the records that were read for it, too
  pub had : KeepsPart a.front kept
  had = record { exchanges = keeps.exchanges ∙ sym a.silent.exchanges; ended = ended_on h.part a.front.part kept.end_us keeps.ended a.silent.exchanges a.silent.still }

  -- of the part that this breaks
  pub kept_of : {next : History} {b : Break} (t : TellsBreak (terms_for scope.extent profile) a.front next b k.feed)
      → (kept.exchanges.items ≡ t.part.part.exchanges) × (t.part.part.tail ≡ [] → IsEnd t.part.part.records kept.exchanges.items kept.end_us)
  kept_of t =
      let same = had.exchanges ∙ sym t.exchanges in
      (same, λ nil. rw same ((ended_on a.front.part t.part.part kept.end_us had.ended t.exchanges t.still).last nil))

  -- what is kept behind it
  behind : (event : Turn) (next : History) (new : Kept) → Tells (terms_for scope.extent profile) a.front event next k.feed → KeepsTold k.feed event kept new → KeepsPart next new
  behind Turn.Exchange next new t more = record {
    exchanges = more.0 t.e t.shown ∙ ap (λ l. l ++ t.e ∷ []) had.exchanges ∙ sym t.exchanges;
    ended = ended_more next.part a.front.part.exchanges t.e new.end_us t.exchanges (more.1 ∙ t.ended);
  }
  behind (Turn.LateReply r) next new t same = record {
    exchanges = ap (λ (v : Vec Exchange Global). v.items) same.0 ∙ had.exchanges ∙ sym t.exchanges;
    ended = rw same.1 (ended_on a.front.part next.part kept.end_us had.ended t.exchanges t.still);
  }
  behind (Turn.Break b) next new t none = record {
    exchanges = none.0 ∙ sym t.none_judged.1;
    ended = record { none = λ nil. none.1; last = λ nil. rw t.none_judged.1 none.1 };
  }
  behind Turn.End next new t keeps = absurd t

  pub keeps_next : (new : Kept) → KeepsTold k.feed event kept new → KeepsPart a.next new
  keeps_next new told = behind event a.next new a.tells told

  -- where no run remains with its last exchange
  pub breaks_last : (b : Break) → event ≡ Turn.Break b → b.reason ≡ Reason.NoRun
      → (e : Exchange) × (k.feed.follower.pairer.exchange ≡ Some e) × BreaksAtLast profile (kept.exchanges.items ++ e ∷ [])
  breaks_last b is no_run =
      let t : TellsBreak (terms_for scope.extent profile) a.front a.next b k.feed = rw is at a.tells in elim t.shows [
        | inl other ↦ absurd (other.0 (t.reason ∙ no_run))
        | inr (same, e, ends, whole, last) ↦ (e, ends, rw (had.exchanges ∙ sym t.exchanges) last)
      ]

-- ---- why a record breaks a rule

module _ {R : Type 0} (terms : Terms) (front next : History) (j : Feed R) (event : Turn) (why : WhyNo) where
  -- why a reply is late
  pub late_why : (r : LineByte) → event ≡ Turn.LateReply r → Tells terms front event next j
      → ((asked : List LineByte) → BeginsLate j.follower.pairer.rules asked r → (j.follower.pairer.tail ≡ asked) ⊎ (j.follower.pairer.tail ≡ asked ++ r ∷ [])
      → SaysLate j.follower.pairer.rules j.rows.given asked r why) → TellsWhy terms event next j (Some why)
  late_why r is tells says = rw is (by (rw is at tells))
    where
      by : TellsLateReply terms front next r j → TellsWhy terms (Turn.LateReply r) next j (Some why)
      by t = (why, refl, t.asked, t.late, rw t.rules at (says t.asked (rw t.rules t.late) t.open_records))

  -- why a part breaks
  pub break_why : (b : Break) (es : List Exchange) (us : Option ℕ) → event ≡ Turn.Break b → Tells terms front event next j
      → ((t : TellsBreak terms front next b j) → (es ≡ t.part.part.exchanges) × (t.part.part.tail ≡ [] → IsEnd t.part.part.records es us))
      → SaysWhy terms.profile j.rows.given b j.follower.pairer es us why → TellsWhy terms event next j (Some why)
  break_why b es us is tells facts says =
      let t : TellsBreak terms front next b j = rw is at tells in
      rw is (why, refl, front.broken, t.part, t.broken, why_text es us t (facts t) why says t.shows)
