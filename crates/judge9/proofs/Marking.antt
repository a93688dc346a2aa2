-- How a judging is marked with what its feed came to: what is counted, what is told, and where it stands.
use Rattle.judge9.proofs.Words.{[], Advances, ap, append-nil, append_assoc, AreCounted, arith, BeginsLate, Break, Exchange, exchanges_of, Extent, false, Feed, Follower, GrowsBy, History, inl, InPart}
use Rattle.judge9.proofs.Words.{inr, IsMarked, IsSilent, Judging, late_besides, left_of, length, length_push, line_rules, LineByte, List, Next, Ok, Option, Part, Profile, records_in, records_of, refl}
use Rattle.judge9.proofs.Words.{reply_limit_of, ReplyLimit, Rows, rows_allowed, Scope, Some, Spoils, Stage, Stands, sym, TellsBesides, Terms, terms_for, true, Turn, ℕ, ◌++◌, ◌<◌, ◌^◌, ◌∙◌, ◌∷◌, ◌≡◌}
use Rattle.judge9.proofs.Words.{◌⊎◌}
use Rattle.block9.proofs.FeedLemmas.{exchange_not_late}
use Rattle.judge9.specs.declared.counts.Counts.{Counts}
use Rattle.judge9.proofs.Coming.{Arrives}
use Rattle.judge9.proofs.EventSteps.{late_joined}
use Rattle.judge9.proofs.ReadSteps.{allowed, events_push, exchanges_push}
use Rattle.judge9.proofs.LineSteps.{records_joined}
use Rattle.judge9.proofs.SoFar.{step_on}
use Rattle.judge9.proofs.Stepping.{besides_came, besides_late, break_came, end_came, exchange_came, late_came, spoiled, Steps}

-- ---- a late reply besides

module _ {R : Type 0} {limit : ℕ} {terms : Terms} {rows : Option Rows} {past : List LineByte} {part : Part} {before : Feed R} {after : Follower} {b : Break}
    (h : InPart limit terms rows past part before) where
  -- the record that breaks the part is told as one where the reply limit is left aside and the record begins late, for which the pairer refused it
  told_besides : (extent : Extent) → Spoils before.follower after b → late_besides extent b ≡ true
      → (reply_limit_of extent ≡ ReplyLimit.LeftAside) × BeginsLate (line_rules terms) part.tail b.record × (after.pairer.rules ≡ line_rules terms) × (after.pairer.tail ≡ part.tail)
  told_besides Extent.FirstBreak spoils late = absurd (cc late)
  told_besides Extent.WholeCapture (inl refused) late =
      (refl, rw (h.same_rules, h.open_records, late) at refused.2, refused.0.rules ∙ h.same_rules, refused.0.tail ∙ h.open_records)
  told_besides Extent.WholeCapture (inr (is, c, in_time)) late = absurd (let no = sym in_time ∙ late in cc)

  -- and else it begins none
  none_besides : (extent : Extent) → Spoils before.follower after b → late_besides extent b ≡ false → TellsBesides (reply_limit_of extent) (line_rules terms) part.tail b.record false
  none_besides Extent.FirstBreak spoils none = refl
  none_besides Extent.WholeCapture (inl refused) none = rw (h.same_rules, h.open_records, none) at refused.2
  none_besides Extent.WholeCapture (inr (is, c, in_time)) none = exchange_not_late (line_rules terms) part.tail b.record c.exchange (step_on h c.takes)

-- ---- what is counted

-- how the counts grow with what is told of a feed
abbrev CountsOn : {R : Type 0} → Turn → Feed R → Counts → Counts → Type 0
CountsOn Turn.Exchange j old new =
    (new.breaks ≡ old.breaks) × GrowsBy (2 ^ 32) 1 old.exchanges new.exchanges
    × ((e : Exchange) → j.follower.pairer.exchange ≡ Some e → GrowsBy (2 ^ 32) (records_of e) old.records new.records)
CountsOn turn j old new = GrowsBy (2 ^ 64) 1 old.breaks new.breaks × (new.exchanges ≡ old.exchanges) × (new.records ≡ old.records)

-- the same is counted behind records of which nothing is told
counted_silent : {h front : History} {counts : Counts} → AreCounted h counts → IsSilent h front → AreCounted front counts
counted_silent c silent = record {
  breaks = rw (silent.broken, silent.told) c.breaks;
  exchanges = rw (silent.broken, silent.exchanges) c.exchanges;
  records = rw (silent.broken, silent.exchanges) c.records;
}

module _ {R : Type 0} {scope : Scope} {profile : Profile} {rows : Option Rows} {h : History} {old : Judging R} (s : Stands scope profile rows h old) (new : Judging R) (mid : Feed R) where
  -- an event more
  counted : (e : Turn) {at : Stage} (t : Steps (rows_allowed scope.extent) (terms_for scope.extent profile) scope.beginning rows h e at mid) → AreCounted t.front old.counts
      → CountsOn e mid old.counts new.counts → AreCounted t.next new.counts
  counted Turn.Exchange t c counts =
      let k = t.tells in
      let all = exchanges_of t.front.broken ++ t.front.part.exchanges in
      let more : exchanges_of t.next.broken ++ t.next.part.exchanges ≡ all ++ k.e ∷ [] =
      rw (k.broken, k.exchanges) (sym (append_assoc (exchanges_of t.front.broken) t.front.part.exchanges (k.e ∷ []))) in
      let one = ap length more ∙ length_push all k.e in
      let records = ap records_in more ∙ records_joined all (k.e ∷ []) in
      let fits = t.few refl in
      let few = t.now_reached.were_given.can_be.within in
      let limit = allowed scope.extent in
      record {
        breaks = rw (k.broken, k.told, late_joined) (omega (arith, counts.0, c.breaks));
        exchanges = omega (arith, counts.1 (omega (arith, c.exchanges, one, fits.0, few, limit)), c.exchanges, one);
        records = omega (arith, counts.2 k.e k.shown (omega (arith, c.records, records, fits.1, few, limit)), c.records, records);
      }
  counted (Turn.LateReply r) t c counts =
      let k = t.tells in
      record {
        breaks = rw (k.broken, k.told, late_joined) (omega (arith, counts.0 (omega (arith, s.bound)), c.breaks));
        exchanges = rw (k.broken, k.exchanges) (counts.1 ∙ c.exchanges);
        records = rw (k.broken, k.exchanges) (counts.2 ∙ c.records);
      }
  counted (Turn.Break b) t c counts =
      let k = t.tells in
      record {
        breaks = rw (k.broken, k.told, length_push, events_push, late_joined, k.events) (omega (arith, counts.0 (omega (arith, s.bound)), c.breaks));
        exchanges = rw (k.broken, k.none_judged.1, append-nil, exchanges_push, k.exchanges) (counts.1 ∙ c.exchanges);
        records = rw (k.broken, k.none_judged.1, append-nil, exchanges_push, k.exchanges) (counts.2 ∙ c.records);
      }
  counted Turn.End t c counts = absurd t.tells

  -- ---- what is told

  advances : {e : Turn} {at : Stage} → Steps (rows_allowed scope.extent) (terms_for scope.extent profile) scope.beginning rows h e at mid → new.feed ≡ mid → new.scope ≡ old.scope
      → new.profile.now ≡ old.profile.now → new.stage ≡ at → CountsOn e mid old.counts new.counts → (e ≡ Turn.End) ⊎ (left_of new < left_of old) → Advances scope profile rows h e new
  advances {e = e} t feed same_scope same_profile at counts fewer = record {
    front = t.front;
    silent = t.silent;
    reached = t.reached;
    next = t.next;
    tells = rw feed t.tells;
    now_reached = t.now_reached;
    stands = record {
      same_scope = same_scope ∙ s.same_scope;
      same_profile = same_profile ∙ s.same_profile;
      at = rw (at, feed) t.stands;
      counted = counted e t (counted_silent s.counted t.silent) counts;
      bound = grind (arith, counts, fewer, t.tells, s.bound);
    };
  }

  -- what came, told
  pub told_arrived : {told : Turn} (turn : Turn) → Arrives (rows_allowed scope.extent) (terms_for scope.extent profile) scope.beginning rows h (Ok turn) mid
      → IsMarked (record old { feed = mid }) turn told new → (told ≡ Turn.End) ⊎ (left_of new < left_of old) → Next scope profile rows h (Ok told) new
  told_arrived turn (inl memory) m fewer = absurd (cc memory)
  told_arrived Turn.Exchange (inr a) m fewer =
      rw m.marks.0 (advances (exchange_came a) m.feed m.scope m.profile m.marks.1 (m.marks.2, m.marks.3, m.marks.4) (rw m.marks.0 at fewer))
  told_arrived (Turn.LateReply r) (inr a) m fewer =
      rw m.marks.0 (advances (late_came a) m.feed m.scope m.profile m.marks.1 (m.marks.2, m.marks.3, m.marks.4) (rw m.marks.0 at fewer))
  told_arrived (Turn.Break b) (inr a) m fewer = elim m.marks.0 [
    | inl (is, at, late) ↦
        let none = none_besides a.here.in_part scope.extent a.turned.1.took.1 (rw s.same_scope at late) in
        rw is (advances (break_came a none) m.feed m.scope m.profile at (m.marks.1, m.marks.2, m.marks.3) (rw is at fewer))
    | inr (is, at, late) ↦
        let one = told_besides a.here.in_part scope.extent a.turned.1.took.1 (rw s.same_scope at late) in
        rw is (advances (besides_came a one.0 one.1 one.2 one.3) m.feed m.scope m.profile at (m.marks.1, m.marks.2, m.marks.3) (rw is at fewer))
  ]
  told_arrived Turn.End (inr a) m fewer =
      let (front, silent, ends) = end_came a in
      rw m.marks.0 (inl (front, silent, rw m.feed ends, rw m.marks.2 (counted_silent s.counted silent), m.marks.1))

-- behind the late reply that a record begins comes its break
pub told_behind : {R : Type 0} {scope : Scope} {profile : Profile} {rows : Option Rows} {h : History} {old : Judging R} (new : Judging R) (b : Break) → Stands scope profile rows h old
    → old.stage ≡ Stage.LateTold b → new.stage ≡ Stage.Broken b → new.feed ≡ old.feed → new.scope ≡ old.scope → new.profile ≡ old.profile
    → CountsOn (Turn.Break b) old.feed old.counts new.counts → Advances scope profile rows h (Turn.Break b) new
told_behind {scope = scope} {h = h} {old = old} new b s was at feed same_scope same_profile counts =
    let less : left_of new < left_of old = grind arith in
    let here = rw was at s.at in
    let late = besides_late (reply_limit_of scope.extent) here.left_aside here.late in
    let silent : IsSilent h h = record { broken = refl; told = refl; exchanges = refl; still = λ nil. inr (refl, nil) } in
    advances s new old.feed (spoiled scope.beginning h b true here.in_part here.gives here.spoils here.items late here.besides here.on here.fits silent)
    feed same_scope (ap (λ p. p.now) same_profile) at counts (inr less)
