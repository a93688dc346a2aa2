-- A capture whose records come at other times: the same exchanges, and the same is told of each part but of late replies; its parts, and
-- its totals.
use Rattle.judge9.proofs.Words.{[], ap, append-nil, append_assoc, AreOutcomes, AreParts, AreRetimed, AreSameParts, AreTotals, arith, begins_next_part, Block}
use Rattle.judge9.proofs.Words.{BrokenPart, Command, Cut, Does, Event, events_by, events_of, Exchange, exchanges_after, exchanges_of, from_command, in_parts, inl, inr}
use Rattle.judge9.proofs.Words.{IsCommand, IsPart, IsSamePart, IsTail, late_replies, LeftAside, length, length-map, LineByte, LineRules, List, map, may_begin, Outcome}
use Rattle.judge9.proofs.Words.{Part, Profile, Reason, records_in, refl, Rest, rest_after, Some, still_tail, sym, tail_after, takes_up_at, told_untimed, Totals}
use Rattle.judge9.proofs.Words.{untimed, ℕ, ◌++◌, ◌+◌, ◌∙◌, ◌∷◌, ◌≡◌}
use Rattle.judge9.proofs.RetimedSteps.{break_retimed, late_or_not, next_of, run_retimed, untimed_joined}
use Rattle.judge9.proofs.RetimedRecords.{aside_soon, by_limit, exchange_retimed, halves, nothing_retimed, parted, retimed_len, tail_retimed, command_retimed, retimed_back}
use Rattle.judge9.proofs.EventSteps.{command_twice}
use Rattle.std.proofs.lemmas.Bool.Decides.{nat_tests}
use Rattle.std.specs.Prelude.{◌&&◌}
use Rattle.block9.specs.Line.{is_commands_wire}
use Rattle.judge9.proofs.PartLaws.{IsLast}
use Rattle.judge9.proofs.PartSteps.{both}
use Rattle.judge9.proofs.Told.{outcomes_of, part_of, some_told}

-- ---- the records of a part

-- the same exchanges came before, the tail is as long, and it is the same with what comes next
record Alike (es : List Exchange) (t records : List LineByte) (fs : List Exchange) (u others : List LineByte) : Type 0 where
  pub same : map untimed es ≡ map untimed fs
  pub number : length t ≡ length u
  pub times : AreRetimed (t ++ records) (u ++ others)

module _ (profile : Profile) where
  abbrev rules : LineRules
  rules = by_limit profile LeftAside

  module _ (n : ℕ) (es fs : List Exchange) (t u : List LineByte) (r s : LineByte) (records others : List LineByte) where
    -- what a record does is the same, but for late replies, and so is what comes then
    abbrev DoesAlike : Outcome → Type 0
    DoesAlike o =
        (p : Outcome) × Does rules u s p × Alike (exchanges_after es o) (tail_after t r o) records (exchanges_after fs p) (tail_after u s p) others
        × ((more less : List Event) → told_untimed more ≡ told_untimed less → told_untimed (events_by n es t r o ++ more) ≡ told_untimed (events_by n fs u s p ++ less))

    does_retimed : (o : Outcome) → Alike es t (r ∷ records) fs u (s ∷ others) → IsTail rules u → Does rules t r o → DoesAlike o
    does_retimed o alike tail done = by o done
      where
        both : AreRetimed (t ++ r ∷ []) (u ++ s ∷ [])
        both = (next_of t u r s records others alike.number alike.times).both

        on : Alike es (t ++ r ∷ []) records fs (u ++ s ∷ []) others
        on = record {
          same = alike.same;
          number = retimed_len (t ++ r ∷ []) (u ++ s ∷ []) both;
          times = rw (append_assoc t (r ∷ []) records, append_assoc u (s ∷ []) others) alike.times;
        }

        stays : IsTail rules (t ++ r ∷ []) → ((b : Block) (c : Command) → ¬ IsCommand rules (t ++ r ∷ []) b c) → DoesAlike Outcome.leaves_open
        stays longer none =
            let now = tail_retimed profile LeftAside LeftAside (t ++ r ∷ []) (u ++ s ∷ []) both (aside_soon profile (u ++ s ∷ [])) longer in
            let back = retimed_back (t ++ r ∷ []) (u ++ s ∷ []) both in
            let none_now = λ (b : Block) (c : Command) (is : IsCommand rules (u ++ s ∷ []) b c).
            none b c (command_retimed profile LeftAside LeftAside (u ++ s ∷ []) (t ++ r ∷ []) b c back is) in
            elim (late_or_not rules u s tail) [
              | inl late ↦ (Outcome.answers_late, (now, late), on, λ more less k. k)
              | inr early ↦ (Outcome.leaves_open, (now, none_now, early), on, λ more less k. k)
            ]

        by : (o : Outcome) → Does rules t r o → DoesAlike o
        by Outcome.leaves_open k = stays k.0 k.1
        by Outcome.answers_late k = stays k.0 (command_twice rules t r k.1)
        by Outcome.asks k =
            (Outcome.asks, (k.0, k.1, command_retimed profile LeftAside LeftAside (t ++ r ∷ []) (u ++ s ∷ []) k.0 k.1 both k.2), on, λ more less k. k)
        by (Outcome.completes e) k =
            let m = exchange_retimed profile LeftAside LeftAside (t ++ r ∷ []) (u ++ s ∷ []) e both (aside_soon profile (u ++ s ∷ [])) k in
            let exchanges = untimed_joined es fs (e ∷ []) (m.0 ∷ []) alike.same (ap (λ x. x ∷ []) m.1) in
            let rest = (parted (t ++ r ∷ []) records (u ++ s ∷ []) others on.number on.times).1 in
            let first = m.1 in
            (Outcome.completes m.0, m.2, record { same = exchanges; number = refl; times = rest }, λ more less k. cc (alike.same, first, k))

  -- records are cut alike, and so is what comes after them
  cut_retimed : (p q after rest : List LineByte) (es : List Exchange) (t : List LineByte) → AreRetimed p q → AreRetimed (p ++ after) (q ++ rest) → Cut rules p es t
      → (fs : List Exchange) × (u : List LineByte) × Cut rules q fs u × Alike es t after fs u rest
  cut_retimed p q after rest [] t h all cut =
      let same = rw cut.0 at h in
      ([], q, (refl, tail_retimed profile LeftAside LeftAside t q same (aside_soon profile q) cut.1), record { same = refl; number = retimed_len t q same; times = rw cut.0 at all })
  cut_retimed p q after rest (e ∷ es) t h all (front, back, split, is, cut) =
      let m = halves front back q (rw split at h) in
      let first = exchange_retimed profile LeftAside LeftAside front m.0 e m.3 (aside_soon profile m.0) is in
      let behind = parted front (back ++ after) m.0 (m.1 ++ rest) (retimed_len front m.0 m.3) (rw (split, m.2, append_assoc front back after, append_assoc m.0 m.1 rest) at all) in
      let (fs, u, now, alike) = cut_retimed back m.1 after rest es t m.4 behind.1 cut in
      (first.0 ∷ fs, u, (m.0, m.1, m.2, first.2, now), record { same = cc (first.1, alike.same); number = alike.number; times = alike.times })

  -- and the same is told of them
  told_retimed : (past : ℕ) (es fs : List Exchange) (t u records others : List LineByte) (events : List Event) → IsTail rules u → Alike es t records fs u others
      → AreOutcomes rules past es t records events → (told : List Event) × AreOutcomes rules past fs u others told × (told_untimed events ≡ told_untimed told)
  told_retimed past es fs t u [] [] events tail alike are = ([], refl, rw are refl)
  told_retimed past es fs t u (r ∷ records) (s ∷ others) events tail alike (o, more, done, are, told) =
      let m = does_retimed (past + 1) es fs t u r s records others o alike tail done in
      let on = told_retimed (past + 1) (exchanges_after es o) (exchanges_after fs m.0) (tail_after t r o) (tail_after u s m.0) records others more (still_tail rules u s m.0 m.1) m.2 are in
      (events_by (past + 1) fs u s m.0 ++ on.0, (m.0, on.0, m.1, on.1, refl), rw told (m.3 more on.0 on.2))
  told_retimed past es fs t u records others events tail alike are =
      let rests = (parted t records u others alike.number alike.times).1 in absurd (omega (arith, retimed_len records others rests))

  -- a part at other times, and what comes after it
  part_retimed : (part : Part) (after others : List LineByte) → IsPart (in_parts profile) part → AreRetimed (part.records ++ after) others
      → (other : Part) × (rest : List LineByte) × (others ≡ other.records ++ rest) × IsPart (in_parts profile) other × IsSamePart part other
      × AreRetimed after rest × AreRetimed (part.tail ++ after) (other.tail ++ rest)
  part_retimed part after others is come =
      let m = halves part.records after others come in
      let (fs, u, cut, alike) = cut_retimed part.records m.0 after m.1 part.exchanges part.tail m.3 (rw m.2 at come) is.cut in
      let told = told_retimed part.past [] [] [] [] part.records m.0 part.events (IsTail.nothing refl) (record { same = refl; number = refl; times = m.3 }) (outcomes_of is) in
      let other : Part = record { past = part.past; records = m.0; exchanges = fs; tail = u; events = told.0 } in
      let same : IsSamePart part other = record { past = refl; records = retimed_len part.records m.0 m.3; exchanges = alike.same; tail = alike.number; events = told.2 } in
      let is_part = part_of cut (run_retimed profile part.exchanges fs alike.same is.run) told.1 in
      (other, m.1, m.2, is_part, same, m.4, alike.times)

-- ---- where the next part begins

-- the same is left
abbrev pub IsRetimed : Rest → Rest → Type 0
IsRetimed rest other = (rest.past ≡ other.past) × AreRetimed rest.records other.records

begins_same : (last r before s : LineByte) (records others : List LineByte) → AreRetimed (last ∷ r ∷ records) (before ∷ s ∷ others) → may_begin (Some last) r ≡ may_begin (Some before) s
begins_same last r before s records others h = let gap = h.2.0 in let first = h.0 in let second = h.3.0 in grind (arith, nat_tests)

from_command_retimed : (past : ℕ) (last before : LineByte) (records others : List LineByte) → AreRetimed (last ∷ records) (before ∷ others)
    → IsRetimed (from_command past (Some last) records) (from_command past (Some before) others)
from_command_retimed past last before [] [] h = (refl, tt)
from_command_retimed past last before (r ∷ records) (s ∷ others) h =
    rw (begins_same last r before s records others h) (both IsRetimed (may_begin (Some before) s) _ _ _ _ (refl, h.3) (from_command_retimed (past + 1) r s records others h.3))
from_command_retimed past last before records others h = absurd (omega (arith, retimed_len records others h.3))

rest_after_retimed : (n : ℕ) (reason : Reason) (r s : LineByte) (after others : List LineByte) → AreRetimed (r ∷ after) (s ∷ others)
    → IsRetimed (rest_after n reason r after) (rest_after n reason s others)
rest_after_retimed n reason r s after others h =
    rw (ap (λ w. takes_up_at reason && is_commands_wire w) h.0) (both IsRetimed (begins_next_part reason s) _ _ _ _ (refl, h) (from_command_retimed (n + 1) r s after others h))

-- ---- all parts

-- the first of the records that come next
some_next : (r : LineByte) (records others : List LineByte) → AreRetimed (r ∷ records) others → (s : LineByte) × (more : List LineByte) × (others ≡ s ∷ more)
some_next r records [] h = absurd h
some_next r records (s ∷ others) h = (s, others, refl)

module _ (profile : Profile) where
  -- the parts of what is left
  pub parts_retimed : (rest left other : Rest) (broken : List BrokenPart) (last : Part) → AreParts (in_parts profile) rest broken left → IsLast profile left last → IsRetimed rest other
      → (others : List BrokenPart) × (behind : Rest) × (end : Part) × AreParts (in_parts profile) other others behind × IsLast profile behind end
      × AreSameParts broken others × IsSamePart last end
  parts_retimed rest left other [] last none is come =
      let (end, after, split, is_part, same, rests, times) = part_retimed profile last [] other.records is.is_part (rw (append-nil last.records, is.has_all, none) come.1) in
      let all = sym (split ∙ ap (λ l. end.records ++ l) (nothing_retimed [] after rests refl) ∙ append-nil end.records) in
      ([], other, end, refl, record { is_part = is_part; past = cc (same.past, is.past, none, come.0); has_all = all }, refl, same)
  parts_retimed rest left other (b ∷ broken) last (after, here, part, breaks, late, others) is come =
      let (now, behind, split, is_part, same, rests, times) = part_retimed profile b.part (b.breaking ∷ after) other.records part (rw (ap (λ (x : Rest). x.records) here) at come.1) in
      let (s, next, first) = some_next b.breaking after behind rests in
      let n = next_of b.part.tail now.tail b.breaking s after next same.tail (rw first at times) in
      let breaks_now = break_retimed profile LeftAside b.part.exchanges now.records now.exchanges part.cut is_part.cut same.exchanges n (λ counts. absurd (cc counts)) breaks in
      let told = some_told now s is_part breaks_now.not_ok in
      let c : BrokenPart = record { part = now; breaking = s; reason = b.reason; events = told.0 } in
      let past : now.past ≡ other.past = sym same.past ∙ sym (ap (λ (x : Rest). x.past) here) ∙ come.0 in
      let records = split ∙ ap (λ l. now.records ++ l) first in
      let left_behind = rest_after_retimed (b.part.past + length b.part.records) b.reason b.breaking s after next (rw first at rests) in
      let (more, left_now, end, parts, is_last, are_same, same_end) = parts_retimed (rest_after (b.part.past + length b.part.records) b.reason b.breaking after) left
      (rest_after (now.past + length now.records) b.reason s next) broken last others is (rw (← same.past, ← same.records) left_behind) in
      (c ∷ more, left_now, end, (next, rw (past, ← records), is_part, breaks_now, told.1, parts), is_last, (c, more, refl {a = c ∷ more}, same, refl, are_same), same_end)

-- ---- what is counted

same_parts : (broken others : List BrokenPart) → AreSameParts broken others → (length broken ≡ length others) × (map untimed (exchanges_of broken) ≡ map untimed (exchanges_of others))
same_parts [] others h = rw h (refl, refl)
same_parts (b ∷ broken) others (c, rest, same, part, reason, h) =
    let more = same_parts broken rest h in
    rw same (omega (arith, more.0), untimed_joined b.part.exchanges c.part.exchanges (exchanges_of broken) (exchanges_of rest) part.exchanges more.1)

records_untimed : (es : List Exchange) → records_in (map untimed es) ≡ records_in es
records_untimed [] = refl
records_untimed (e ∷ es) = omega (arith, records_untimed es)

pub totals_retimed : (items moved : List LineByte) (broken others : List BrokenPart) (last end : Part) (totals : Totals) → length items ≡ length moved → AreSameParts broken others
    → IsSamePart last end → AreTotals (length items) broken last totals
    → AreTotals (length moved) others end (record totals { breaks = length broken + late_replies (events_of others ++ end.events) })
totals_retimed items moved broken others last end totals number parts same are =
    let all = same_parts broken others parts in
    let joined = untimed_joined (exchanges_of broken) (exchanges_of others) last.exchanges end.exchanges all.1 same.exchanges in
    let count = simp length-map at (ap length joined) in
    let inside = simp records_untimed at (ap records_in joined) in
    record {
      breaks = omega (arith, all.0);
      all_records = are.all_records ∙ number;
      exchanges = are.exchanges ∙ count;
      tail = are.tail ∙ same.tail;
      passed_over = omega (arith, are.passed_over, inside, number, same.tail);
    }
