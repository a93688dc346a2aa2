-- What is told of a part follows from what each of its records does; and what is told of the record that breaks it.
use Rattle.judge9.proofs.Words.{[], ap, append-nil, append_assoc, AreEvents, AreEventsAt, AreOutcomes, arith, BeginsLate, besides_by, Block, Bool, Command, Controller, counting, Cut, cut_once}
use Rattle.judge9.proofs.Words.{cut_parted, Does, Event, events_by, Exchange, exchange, exchanges_after, false, HasRun, inl, inr, IsCommand, IsEvent, IsKept, IsOk, IsPart, IsTail, kept_less}
use Rattle.judge9.proofs.Words.{late_reply, length, length_push, line_rules, LineByte, LineRules, List, Outcome, Part, Profile, refl, still_tail, subst, sym, tail_after, tail_by_kept, TellsBesides}
use Rattle.judge9.proofs.Words.{Terms, true, ℕ, ◌++◌, ◌+◌, ◌∙◌, ◌∷◌, ◌≡◌}
use Rattle.block9.proofs.CutLemmas.{tail_less}
use Rattle.block9.proofs.FeedLemmas.{exchange_not_late}
use Rattle.block9.proofs.ReasonLemmas.{none_holds}
use Rattle.block9.proofs.TailLemmas.{in_reply_of, place_in_command, place_of_command}
use Rattle.block9.specs.declared.line_rules.ReplyLimit.{ReplyLimit}
use Rattle.block9.specs.declared.line_rules.ReplyLimit.TheVariants.{Counts, LeftAside}
use Rattle.block9.specs.declared.reason.Reason.TheVariants.{LateReply}
use Rattle.judge9.proofs.CutSteps.{cut-exchange, cut-step, cut-tail, kept_grows}
use Rattle.judge9.proofs.EventSteps.{command_twice, push_once}
use Rattle.judge9.proofs.LawLemmas.{cut_tail, first_of, kept_of, part_ok}
use Rattle.judge9.proofs.RetimedSteps.{late_or_not}
use Rattle.judge9.proofs.RunSteps.{run_less}

-- ---- the same is told of the same records

module _ (terms : Terms) (past : ℕ) where
  -- a record that begins a late reply ends no exchange
  late_ends_none : (before : List LineByte) (r : LineByte) (at n : ℕ) (asked : List LineByte) (first : LineByte) (es : List Exchange) (e : Exchange)
      → IsEvent terms past before r (late_reply at asked first) → IsEvent terms past before r (exchange n es e) → ⊥
  late_ends_none before r at n asked first es e (number, one, aside, late, (fs, cut)) (m, whole, run) =
      let kept = tail_by_kept (line_rules terms) before fs asked (r ∷ []) cut (record { exchanges = es ++ e ∷ []; tail = []; cut = whole }) in
      elim (kept_grows (line_rules terms) asked r (cut_tail (line_rules terms) before fs asked cut) kept) [
        | inl longer ↦
            let grown = cut-tail (line_rules terms) before fs asked r cut longer in
            absurd (omega (arith, length_push asked r, ap length (cut_once (line_rules terms) (before ++ r ∷ []) fs (es ++ e ∷ []) (asked ++ r ∷ []) [] grown whole).1))
        | inr other ↦ absurd (exchange_not_late (line_rules terms) asked r other.0 other.1 late)
      ]

  event_once : (before : List LineByte) (r : LineByte) (x y : Event) → IsEvent terms past before r x → IsEvent terms past before r y → x ≡ y
  event_once before r (late_reply at asked first) (late_reply n others other) (number, one, aside, late, (es, cut)) (m, same, also, later, (fs, whole)) =
      cc (number, m, one, same, (cut_once (line_rules terms) before es fs asked others cut whole).1)
  event_once before r (exchange at es e) (exchange n fs f) (number, cut, run) (m, whole, other) =
      let same = (cut_once (line_rules terms) (before ++ r ∷ []) (es ++ e ∷ []) (fs ++ f ∷ []) [] [] cut whole).0 in
      let parts = push_once es fs e f same in
      cc (number, m, parts.0, parts.1)
  event_once before r (late_reply at asked first) (exchange n es e) h k = absurd (late_ends_none before r at n asked first es e h k)
  event_once before r (exchange n es e) (late_reply at asked first) h k = absurd (late_ends_none before r at n asked first es e k h)

  pub at_once : (before : List LineByte) (r : LineByte) (some others : List Event) → AreEventsAt terms past before r some → AreEventsAt terms past before r others → some ≡ others
  at_once before r [] [] h k = refl
  at_once before r [] (y ∷ others) h k = absurd (h y k.0)
  at_once before r (x ∷ some) [] h k = absurd (k x h.0)
  at_once before r (x ∷ some) (y ∷ others) h k = cc (event_once before r x y h.0 k.0, h.1, k.1)

  events_once : (before records : List LineByte) (some others : List Event) → AreEvents terms past before records some → AreEvents terms past before records others → some ≡ others
  events_once before [] some others h k = h ∙ sym k
  events_once before (r ∷ records) some others (x, more, is, are, same) (y, rest, be, also, split) =
      cc (same, split, at_once before r x y is be, events_once (before ++ r ∷ []) records more rest are also)

-- ---- what a record does

module _ (rules : LineRules) where
  waits : (t : List LineByte) (r : LineByte) → IsTail rules t → IsTail rules (t ++ r ∷ []) → ((b : Block) (c : Command) → ¬ IsCommand rules (t ++ r ∷ []) b c)
      → (o : Outcome) × Does rules t r o
  waits t r tail longer none = elim (late_or_not rules t r tail) [
    | inl late ↦ (Outcome.answers_late, (longer, late))
    | inr early ↦ (Outcome.leaves_open, (longer, none, early))
  ]

  grows : (t : List LineByte) (r : LineByte) → IsTail rules t → IsTail rules (t ++ r ∷ []) → (o : Outcome) × Does rules t r o
  grows t r tail (IsTail.nothing e) = absurd (omega (arith, ap length e, length_push t r))
  grows t r tail (IsTail.in_command h) = waits t r tail (IsTail.in_command h)
      (λ b c is. cc (place_in_command rules Controller (t ++ r ∷ []) h, place_of_command rules Controller (t ++ r ∷ []) b is.whole))
  grows t r tail (IsTail.after_command b c h) = (Outcome.asks, (b, c, h))
  grows t r tail (IsTail.in_reply command reply b c e hc hd soon) = waits t r tail (IsTail.in_reply command reply b c e hc hd soon)
      (λ k d is. cc ((in_reply_of rules command reply (t ++ r ∷ []) b c e hc hd.begun).place, place_of_command rules Controller (t ++ r ∷ []) k is.whole))

  -- a record that keeps the rules does something
  does_some : (t : List LineByte) (r : LineByte) → IsTail rules t → IsKept rules (t ++ r ∷ []) → (o : Outcome) × Does rules t r o
  does_some t r tail kept = elim (kept_grows rules t r tail kept) [
    | inl longer ↦ grows t r tail longer
    | inr whole ↦ (Outcome.completes whole.0, whole.1)
  ]

  -- so do records that keep them, and something is told by that
  outcomes : (past : ℕ) (es : List Exchange) (t records : List LineByte) → IsTail rules t → IsKept rules (t ++ records) → (events : List Event) × AreOutcomes rules past es t records events
  outcomes past es t [] tail kept = ([], refl)
  outcomes past es t (r ∷ records) tail kept =
      let all = subst (IsKept rules) (sym (append_assoc t (r ∷ []) records)) kept in
      let (o, done) = does_some t r tail (first_of (IsKept rules) (kept_less rules) records (t ++ r ∷ []) all) in
      let rest = tail_by_kept rules (t ++ r ∷ []) (exchanges_after [] o) (tail_after t r o) records (cut-step rules t [] t r o (refl, tail) done) all in
      let (more, are) = outcomes (past + 1) (exchanges_after es o) (tail_after t r o) records (still_tail rules t r o done) rest in
      (events_by (past + 1) es t r o ++ more, (o, more, done, are, refl))

-- ---- what is told of it

left_aside : (limit : ReplyLimit) → (limit ≡ Counts → ⊥) → limit ≡ LeftAside
left_aside limit none = grind arith

module _ (terms : Terms) (past : ℕ) (before : List LineByte) (es : List Exchange) (t : List LineByte) (r : LineByte) (cut : Cut (line_rules terms) before es t)
    (at : ℕ) (number : at ≡ past + length before + 1) where
  -- nothing, where it leaves records open and does not come late
  quiet : IsTail (line_rules terms) (t ++ r ∷ []) → ¬ BeginsLate (line_rules terms) t r → (event : Event) → ¬ IsEvent terms past before r event
  quiet longer early (late_reply n asked first) (m, one, aside, late, (fs, whole)) =
      early (subst (λ l. BeginsLate (line_rules terms) l r) (cut_once (line_rules terms) before fs es asked t whole cut).1 late)
  quiet longer early (exchange n fs f) (m, whole, run) =
      let grown = cut-tail (line_rules terms) before es t r cut longer in
      omega (arith, length_push t r, ap length (cut_once (line_rules terms) (before ++ r ∷ []) (fs ++ f ∷ []) es [] (t ++ r ∷ []) whole grown).1)

  told_by : (o : Outcome) → Does (line_rules terms) t r o → HasRun terms.profile (exchanges_after es o) → AreEventsAt terms past before r (events_by at es t r o)
  told_by Outcome.leaves_open done run = quiet done.0 done.2
  told_by Outcome.asks done run = quiet (IsTail.after_command done.0 done.1 done.2) (λ late. command_twice (line_rules terms) t r late done.0 done.1 done.2)
  told_by Outcome.answers_late done run =
      let aside = left_aside terms.reply_limit (λ counts. none_holds (line_rules terms) t r (tail_less (line_rules terms) t r done.0).1 LateReply (counts, done.1)) in
      ((number, refl, aside, done.1, (es, cut)), refl)
  told_by (Outcome.completes e) done run = ((number, cut-exchange (line_rules terms) before es t r e cut done, run), refl)

-- ---- the records of a part

module _ (terms : Terms) (past : ℕ) (ends : List Exchange) (last : List LineByte) (run : HasRun terms.profile ends) where
  run_to : (p rest : List LineByte) (es : List Exchange) (t : List LineByte) → Cut (line_rules terms) p es t → Cut (line_rules terms) (p ++ rest) ends last → HasRun terms.profile es
  run_to p rest es t cut whole =
      let more = cut_parted (line_rules terms) p es ends t rest last cut whole in
      first_of (HasRun terms.profile) (run_less terms.profile) more.0 es (subst (HasRun terms.profile) more.1 run)

  by_outcomes : (before : List LineByte) (es : List Exchange) (t records : List LineByte) (events : List Event) (n : ℕ) → n ≡ past + length before → Cut (line_rules terms) before es t
      → Cut (line_rules terms) (before ++ records) ends last → AreOutcomes (line_rules terms) n es t records events → AreEvents terms past before records events
  by_outcomes before es t [] events n number cut whole are = are
  by_outcomes before es t (r ∷ records) events n number cut whole (o, more, done, are, is) =
      let on = subst (λ l. Cut (line_rules terms) l ends last) (sym (append_assoc before (r ∷ []) records)) whole in
      let step = cut-step (line_rules terms) before es t r o cut done in
      let run_on = run_to (before ++ r ∷ []) records (exchanges_after es o) (tail_after t r o) step on in (
        events_by (n + 1) es t r o,
        more,
        told_by terms past before es t r cut (n + 1) (omega arith) o done run_on,
        by_outcomes (before ++ r ∷ []) (exchanges_after es o) (tail_after t r o) records more (n + 1) (omega (arith, number, length_push before r)) step on are,
        is,
      )

told : (terms : Terms) (part : Part) → Cut (line_rules terms) part.records part.exchanges part.tail → HasRun terms.profile part.exchanges → (events : List Event)
    → AreOutcomes (line_rules terms) part.past [] [] part.records events → AreEvents terms part.past [] part.records events
told terms part cut run events are =
    by_outcomes terms part.past part.exchanges part.tail run [] [] [] part.records events part.past (omega arith) (refl, IsTail.nothing refl) cut are

module _ {terms : Terms} {part : Part} where
  pub part_of : Cut (line_rules terms) part.records part.exchanges part.tail → HasRun terms.profile part.exchanges
      → AreOutcomes (line_rules terms) part.past [] [] part.records part.events → IsPart terms part
  part_of cut run are = record { cut = cut; run = run; are_events = told terms part cut run part.events are }

  pub told_once : IsPart terms part → (events : List Event) → AreEvents terms part.past [] part.records events → events ≡ part.events
  told_once is events are = events_once terms part.past [] part.records events part.events are is.are_events

  pub outcomes_of : IsPart terms part → AreOutcomes (line_rules terms) part.past [] [] part.records part.events
  outcomes_of is =
      let (events, are) = outcomes (line_rules terms) part.past [] [] part.records (IsTail.nothing refl) (kept_of terms part.records (part_ok is)) in
      subst (AreOutcomes (line_rules terms) part.past [] [] part.records) (told_once is events (told terms part is.cut is.run events are)) are

-- ---- one record more

events_more : (terms : Terms) (past : ℕ) (before records : List LineByte) (r : LineByte) (events some : List Event) → AreEvents terms past before records events
    → AreEventsAt terms past (before ++ records) r some → AreEvents terms past before (records ++ r ∷ []) (events ++ some)
events_more terms past before [] r events some are ends =
    rw are (some, [], subst (λ l. AreEventsAt terms past l r some) (append-nil before) ends, refl, sym (append-nil some))
events_more terms past before (x ∷ records) r events some (first, more, begins, are, is) ends = (
  first,
  more ++ some,
  begins,
  events_more terms past (before ++ x ∷ []) records r more some are (subst (λ l. AreEventsAt terms past l r some) (sym (append_assoc before (x ∷ []) records)) ends),
  ap (λ l. l ++ some) is ∙ append_assoc first more some,
)

-- ---- the record that breaks a part

module _ {terms : Terms} (part : Part) (r : LineByte) (is : IsPart terms part) (not_ok : ¬ IsOk terms (part.records ++ r ∷ [])) where
  abbrev pub besides : Bool → List Event
  besides late = besides_by (part.past + length part.records + 1) part.tail r late

  -- it ends no exchange
  only_late : (event : Event) → IsEvent terms part.past part.records r event → (terms.reply_limit ≡ LeftAside) × BeginsLate (line_rules terms) part.tail r
  only_late (late_reply at asked first) (number, one, aside, late, (es, cut)) =
      (aside, subst (λ l. BeginsLate (line_rules terms) l r) (cut_once (line_rules terms) part.records es part.exchanges asked part.tail cut is.cut).1 late)
  only_late (exchange at fs f) (number, cut, run) = absurd (not_ok (record { exchanges = fs ++ f ∷ []; tail = []; cut = cut; run = run }))

  told_besides : (limit : ReplyLimit) → terms.reply_limit ≡ limit → (late : Bool) → TellsBesides limit (line_rules terms) part.tail r late
      → AreEventsAt terms part.past part.records r (besides late)
  told_besides Counts same true tells = absurd (cc tells)
  told_besides Counts same false tells = λ event is_event. cc (same, (only_late event is_event).0)
  told_besides LeftAside same true tells = ((refl, refl, same, tells, (part.exchanges, is.cut)), refl)
  told_besides LeftAside same false tells = λ event is_event. tells (only_late event is_event).1

  decided : (limit : ReplyLimit) → (late : Bool) × TellsBesides limit (line_rules terms) part.tail r late
  decided Counts = (false, refl)
  decided LeftAside = elim (late_or_not (line_rules terms) part.tail r (cut_tail (line_rules terms) part.records part.exchanges part.tail is.cut)) [
    | inl late ↦ (true, late)
    | inr early ↦ (false, early)
  ]

  -- what is told of all of them
  pub told_with_break : (late : Bool) → TellsBesides terms.reply_limit (line_rules terms) part.tail r late → AreEvents terms part.past [] (part.records ++ r ∷ []) (part.events ++ besides late)
  told_with_break late tells = events_more terms part.past [] part.records r part.events (besides late) is.are_events (told_besides terms.reply_limit refl late tells)

  -- some events are, and no others
  pub some_told : (events : List Event) × AreEvents terms part.past [] (part.records ++ r ∷ []) events
  some_told = let (late, tells) = decided terms.reply_limit in (part.events ++ besides late, told_with_break late tells)

  pub all_told_once : (some others : List Event) → AreEvents terms part.past [] (part.records ++ r ∷ []) some → AreEvents terms part.past [] (part.records ++ r ∷ []) others → some ≡ others
  all_told_once = events_once terms part.past [] (part.records ++ r ∷ [])

  pub break_told : (events : List Event) → AreEvents terms part.past [] (part.records ++ r ∷ []) events
      → (late : Bool) × TellsBesides terms.reply_limit (line_rules terms) part.tail r late × (events ≡ part.events ++ besides late)
  break_told events are =
      let (late, tells) = decided terms.reply_limit in
      (late, tells, all_told_once events (part.events ++ besides late) are (told_with_break late tells))

-- where the reply limit counts, nothing is told of it
pub told_counting : {profile : Profile} (part : Part) (r : LineByte) → IsPart (counting profile) part → ¬ IsOk (counting profile) (part.records ++ r ∷ []) → (events : List Event)
    → AreEvents (counting profile) part.past [] (part.records ++ r ∷ []) events → events ≡ part.events
told_counting part r is not_ok events are =
    let (late, none, same) = break_told part r is not_ok events are in
    same ∙ ap (λ l. part.events ++ besides part r is not_ok l) none ∙ append-nil part.events
