-- Where no reply is late, records that keep the rules with the limit left aside keep them where it counts; and the first break of a
-- capture whose parts are judged with the limit left aside is the one at which its judging would end where it counts.
use Rattle.judge9.proofs.Words.{[], ap, append-nil, append_assoc, AreEvents, AreOutcomes, arith, BeginsLate, besides_by, Bool, Breaks, BrokenPart, Controller, counting, Counts, Cut}
use Rattle.judge9.proofs.Words.{cut_once, cut_parted, Does, Event, events_by, Exchange, exchanges_after, false, HasRun, in_parts, IsEvent, IsExchange, IsFirstBreak, IsPart, IsTail}
use Rattle.judge9.proofs.Words.{late_replies, late_reply, LeftAside, length, length-append, LineByte, List, Outcome, pairing, Part, place_of_command, Profile, Reason, refl, Some, sym}
use Rattle.judge9.proofs.Words.{tail_after, tail_by_kept, TellsLate, Terms, true, whole_parts, ℕ, if◌then◌else◌, ◌++◌, ◌+◌, ◌∙◌, ◌∷◌, ◌≡◌}
use Rattle.block9.proofs.FeedLemmas.{exchange_not_late}
use Rattle.block9.proofs.ReasonLemmas as block
use Rattle.std.proofs.lemmas.Bool.Decides.{nat_tests}
use Rattle.judge9.proofs.CutSteps.{cut-step}
use Rattle.judge9.proofs.EventSteps.{late_joined}
use Rattle.judge9.proofs.LawLemmas.{cut_tail, first_of, tail_breaks}
use Rattle.judge9.proofs.RetimedSteps.{break_retimed, late_alike, next_of}
use Rattle.judge9.proofs.RetimedRecords.{by_limit, exchange_retimed, IsSoon, retimed_same, soon_more, tail_retimed}
use Rattle.judge9.proofs.RunSteps.{run_less}
use Rattle.judge9.proofs.Told.{break_told, outcomes_of}
use Rattle.std.specs.Prelude.{◌==◌}

module _ (profile : Profile) where
  -- ---- the limit counts

  exchange_counts : (records : List LineByte) (e : Exchange) → IsSoon (by_limit profile Counts) records → IsExchange (by_limit profile LeftAside) records e
      → IsExchange (by_limit profile Counts) records e
  exchange_counts records e soon h =
      let (f, same, is) = exchange_retimed profile LeftAside Counts records records e (retimed_same records) soon h in
      let parts = whole_parts Controller h.asked is.asked h.answered is.answered e.block f.block h.command.whole is.command.whole (sym h.split ∙ is.split) in
      let one : f ≡ e = grind (arith, h.time, is.time, h.delay, is.delay) in
      rw one at is

  -- what a record does that begins no late reply
  does_counts : (n : ℕ) (es : List Exchange) (t : List LineByte) (r : LineByte) (o : Outcome) → IsTail (by_limit profile Counts) t → late_replies (events_by n es t r o) ≡ 0
      → Does (by_limit profile LeftAside) t r o → Does (by_limit profile Counts) t r o
  does_counts n es t r Outcome.leaves_open tail none h =
      let early = λ (late : BeginsLate (by_limit profile Counts) t r). h.2 (late_alike profile Counts LeftAside t r late) in (
        tail_retimed profile LeftAside Counts (t ++ r ∷ []) (t ++ r ∷ []) (retimed_same (t ++ r ∷ [])) (soon_more (by_limit profile Counts) t r tail (λ counts. early)) h.0,
        λ b c is. h.1 b c (record { whole = is.whole; meaning = is.meaning }),
        early,
      )
  does_counts n es t r Outcome.answers_late tail none h = absurd (omega arith)
  does_counts n es t r Outcome.asks tail none h = (h.0, h.1, record { whole = h.2.whole; meaning = h.2.meaning })
  does_counts n es t r (Outcome.completes e) tail none h =
      let early = λ (late : BeginsLate (by_limit profile Counts) t r). exchange_not_late (by_limit profile LeftAside) t r e h (late_alike profile Counts LeftAside t r late) in
      exchange_counts (t ++ r ∷ []) e (soon_more (by_limit profile Counts) t r tail (λ counts. early)) h

  -- the records are cut alike
  cut_in_time : (past : ℕ) (p : List LineByte) (es : List Exchange) (t records : List LineByte) (events : List Event) → Cut (by_limit profile LeftAside) p es t
      → Cut (by_limit profile Counts) p es t → AreOutcomes (by_limit profile LeftAside) past es t records events → late_replies events ≡ 0
      → (ends : List Exchange) × (tail : List LineByte) × Cut (by_limit profile LeftAside) (p ++ records) ends tail × Cut (by_limit profile Counts) (p ++ records) ends tail
  cut_in_time past p es t [] events aside cut are none = (es, t, rw append-nil aside, rw append-nil cut)
  cut_in_time past p es t (r ∷ records) events aside cut (o, more, done, are, is) none =
      let count = late_joined (events_by (past + 1) es t r o) more in
      let all = ap late_replies is in
      let counts = does_counts (past + 1) es t r o (cut_tail (by_limit profile Counts) p es t cut) (omega (arith, count, all)) done in
      rw append_assoc at (cut_in_time (past + 1) (p ++ r ∷ []) (exchanges_after es o) (tail_after t r o) records more
      (cut-step (by_limit profile LeftAside) p es t r o aside done) (cut-step (by_limit profile Counts) p es t r o cut counts) are (omega (arith, count, all)))

  pub part_counts : (part : Part) → IsPart (in_parts profile) part → late_replies part.events ≡ 0 → Cut (by_limit profile Counts) part.records part.exchanges part.tail
  part_counts part is none =
      let m = cut_in_time part.past [] [] [] part.records part.events (refl, IsTail.nothing refl) (refl, IsTail.nothing refl) (outcomes_of is) none in
      let same = cut_once (by_limit profile LeftAside) part.records m.0 part.exchanges m.1 part.tail m.2 is.cut in
      rw (same.0, same.1) at m.3

  -- ---- a late reply

  -- one that begins after a part of which none is late breaks a rule where the limit counts
  late_breaks : (part : Part) (r : LineByte) → IsPart (in_parts profile) part → late_replies part.events ≡ 0 → BeginsLate (by_limit profile LeftAside) part.tail r
      → Breaks (counting profile) part.records r Reason.LateReply
  late_breaks part r is none late =
      let cut = part_counts part is none in
      let tail = cut_tail (by_limit profile Counts) part.records part.exchanges part.tail cut in
      let counts = late_alike profile LeftAside Counts part.tail r late in
      let wire = counts.wire in
      let after = counts.late in
      let paired : pairing (by_limit profile Counts) part.tail r ≡ Some Reason.LateReply =
      rw (place_of_command (by_limit profile Counts) Controller part.tail counts.asked.0 counts.asked.2.whole) (grind (arith, nat_tests)) in
      let reason = block.table_reason (by_limit profile Counts) part.tail r Reason.LateReply tail (omega (arith, after)) paired in
      tail_breaks (counting profile) part.records part.exchanges part.tail r Reason.LateReply cut is.run (λ kept. block.reason_broken (by_limit profile Counts) part.tail r
      Reason.LateReply tail reason (tail_by_kept (by_limit profile Counts) part.records part.exchanges part.tail (r ∷ []) cut kept)) reason

  -- the record of which a late reply is told, and what is told of those before it
  find_late : (terms : Terms) (past : ℕ) (before records : List LineByte) (events front more : List Event) (at : ℕ) (asked : List LineByte) (r : LineByte)
      → AreEvents terms past before records events → events ≡ front ++ late_reply at asked r ∷ more → (q : List LineByte) × (rest : List LineByte) × (records ≡ q ++ r ∷ rest)
      × AreEvents terms past before q front × IsEvent terms past (before ++ q) r (late_reply at asked r)
  find_late terms past before [] events front more at asked r are split = absurd (omega (arith, ap length (sym are ∙ split), length-append front (late_reply at asked r ∷ more)))
  find_late terms past before (x ∷ records) events front more at asked r ([], rest, none, are, is) split =
      let (q, left, parts, told, late) = find_late terms past (before ++ x ∷ []) records rest front more at asked r are (sym is ∙ split) in
      (x ∷ q, left, cc parts, ([], front, none, told, refl), rw (append_assoc before (x ∷ []) q) at late)
  find_late terms past before (x ∷ records) events [] more at asked r (e ∷ some, rest, (event, nil), are, is) split =
      let same = sym is ∙ split in
      let one : e ≡ late_reply at asked r = cc in
      let here : IsEvent terms past before x (late_reply at asked r) = rw one at event in
      ([], records, ap (λ y. y ∷ records) (sym here.1), refl, rw append-nil (rw (sym here.1) at here))
  find_late terms past before (x ∷ records) events (f ∷ front) more at asked r (e ∷ some, rest, (event, nil), are, is) split =
      let same = sym is ∙ split in
      let one : e ≡ f = cc in
      let on : rest ≡ front ++ late_reply at asked r ∷ more = cc (nil) in
      let (q, left, parts, told, late) = find_late terms past (before ++ x ∷ []) records rest front more at asked r are on in
      (x ∷ q, left, cc parts, (f ∷ [], front, (rw one at event, refl), told, refl), rw (append_assoc before (x ∷ []) q) at late)

  -- a late reply of the first part, before which none is late
  pub first_late : (items after : List LineByte) (part : Part) (front more : List Event) (at : ℕ) (asked : List LineByte) (r : LineByte) → items ≡ part.records ++ after
      → part.past ≡ 0 → IsPart (in_parts profile) part → part.events ≡ front ++ late_reply at asked r ∷ more → late_replies front ≡ 0
      → IsFirstBreak (counting profile) 0 items at Reason.LateReply
  first_late items after part front more at asked r whole start is split none =
      let (q, rest, parts, told, late) = find_late (in_parts profile) part.past [] part.records part.events front more at asked r is.are_events split in
      let (es, cut) = late.4 in
      let on = cut_parted (by_limit profile LeftAside) q es part.exchanges asked (r ∷ rest) part.tail cut (rw parts at is.cut) in
      let run : HasRun profile es = first_of (HasRun profile) (run_less profile) on.0 es (rw on.1 at is.run) in
      let before : Part = record { past = part.past; records = q; exchanges = es; tail = asked; events = front } in
      record {
        before = q;
        next = r;
        after = rest ++ after;
        split = whole ∙ ap (λ l. l ++ after) parts ∙ append_assoc q (r ∷ rest) after;
        number = omega (arith, late.0, start);
        breaks = late_breaks before r (record { cut = cut; run = run; are_events = told }) none late.3;
      }

  -- ---- the end of a part of which no reply is late

  -- the reason of the first break
  abbrev pub reason_told : BrokenPart → Reason
  reason_told b = if late_replies b.events == 0 then b.reason else Reason.LateReply

  -- a part of which no reply is late breaks there
  pub breaks_in_time : (b : BrokenPart) → IsPart (in_parts profile) b.part → Breaks (in_parts profile) b.part.records b.breaking b.reason
      → AreEvents (in_parts profile) b.part.past [] (b.part.records ++ b.breaking ∷ []) b.events → late_replies b.part.events ≡ 0
      → Breaks (counting profile) b.part.records b.breaking (reason_told b)
  breaks_in_time b part breaks told none = let (late, tells, same) = break_told b.part b.breaking part breaks.not_ok b.events told in by late tells same
    where
      by : (late : Bool) → TellsLate (by_limit profile LeftAside) b.part.tail b.breaking late
          → b.events ≡ b.part.events ++ besides_by (b.part.past + length b.part.records + 1) b.part.tail b.breaking late → Breaks (counting profile) b.part.records b.breaking (reason_told b)
      by true late same = rw (same, late_joined, none) (late_breaks b.part b.breaking part none late)
      by false early same =
          let t = b.part.tail in
          let r = b.breaking in
          rw (same, late_joined, none) (break_retimed profile Counts b.part.exchanges b.part.records b.part.exchanges part.cut (part_counts b.part part none) refl
          (next_of t t r r [] [] refl (retimed_same (t ++ r ∷ []))) (λ counts late. early (late_alike profile Counts LeftAside t r late)) breaks)
