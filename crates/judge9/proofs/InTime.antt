-- Where no record of the deck comes later than the reply limit after one of the controller, no reply is late; and each capture has such times.
use Rattle.judge9.proofs.Words.{[], ap, append-nil, append_assoc, AreEvents, AreEventsAt, AreParts, AreRetimed, arith, BrokenPart, Controller, Deck, drop, Event, events_of, exchange, in_parts}
use Rattle.judge9.proofs.Words.{IsLinked, IsPart, last_time, late_replies, late_reply, length, line_rules, LineByte, List, NoneIsLate, Part, Profile, refl, reply_limit, Rest, rest_after, take}
use Rattle.judge9.proofs.Words.{take-append-drop, Terms, whole_long, Wire, ℕ, ◌++◌, ◌+◌, ◌-◌, ◌<◌, ◌∙◌, ◌∷◌, ◌≡◌, ◌≤◌}
use Rattle.std.proofs.lemmas.List.Sorted.{IsNonDecreasingBy-drop}
use Rattle.std.specs.List.Sorted.{IsNonDecreasingBy}
use Rattle.judge9.proofs.CutSteps.{tail_last}
use Rattle.judge9.proofs.EventSteps.{late_joined}
use Rattle.judge9.proofs.PartLaws.{IsRestOf, rest_after_rest}

-- ---- no reply is late

none_behind : (a b : List LineByte) → NoneIsLate (a ++ b) → NoneIsLate b
none_behind [] b h = h
none_behind (r ∷ []) [] h = tt
none_behind (r ∷ []) (s ∷ b) h = h.1
none_behind (r ∷ q ∷ a) b h = none_behind (q ∷ a) b h.1

never_late : (t : List LineByte) (r : LineByte) (records : List LineByte) → NoneIsLate (t ++ r ∷ records) → IsLinked Controller t → 0 < length t → r.wire ≡ Deck
    → r.time_us ≤ last_time t + reply_limit
never_late [] r records h linked some wire = absurd (omega arith)
never_late (q ∷ []) r records h linked some wire = h.0 linked wire
never_late (q ∷ x ∷ t) r records h linked some wire = never_late (x ∷ t) r records h.1 linked.3 (omega arith) wire

module _ (terms : Terms) (past : ℕ) where
  none_at : (before : List LineByte) (r : LineByte) (after : List LineByte) (some : List Event) → NoneIsLate (before ++ r ∷ after) → AreEventsAt terms past before r some
      → late_replies some ≡ 0
  none_at before r after [] h none = refl
  none_at before r after (late_reply at asked first ∷ some) h ((number, one, aside, late, (es, cut)), nil) =
      let m = tail_last (line_rules terms) before es asked cut in
      let here = none_behind m.0 (asked ++ r ∷ after) (rw (m.1, append_assoc m.0 asked (r ∷ after)) at h) in
      let whole = late.asked.2.whole in
      absurd (omega (arith, late.late, never_late asked r after here whole.linked (omega (arith, whole_long Controller asked late.asked.0 whole)) late.wire))
  none_at before r after (exchange at es e ∷ some) h (is, nil) = ap late_replies nil

  none_told : (before records after : List LineByte) (events : List Event) → NoneIsLate (before ++ (records ++ after)) → AreEvents terms past before records events
      → late_replies events ≡ 0
  none_told before [] after events h is = ap late_replies is
  none_told before (r ∷ records) after events h (some, more, begins, are, is) = omega (
    arith,
    ap late_replies is,
    late_joined some more,
    none_at before r (records ++ after) some h begins,
    none_told (before ++ r ∷ []) records after more (rw (append_assoc before (r ∷ []) (records ++ after)) h) are,
  )

module _ (profile : Profile) (items : List LineByte) (none : NoneIsLate items) where
  none_left : (n : ℕ) → NoneIsLate (drop n items)
  none_left n = none_behind (take n items) (drop n items) (rw take-append-drop none)

  pub none_in_parts : (rest left : Rest) (broken : List BrokenPart) (last : Part) → IsRestOf items rest → AreParts (in_parts profile) rest broken left → IsPart (in_parts profile) last
      → last.records ≡ left.records → late_replies (events_of broken ++ last.events) ≡ 0
  none_in_parts rest left [] last is same part all =
      none_told (in_parts profile) last.past [] last.records [] last.events (rw (append-nil last.records, all, same, is) (none_left rest.past)) part.are_events
  none_in_parts rest left (b ∷ broken) last is (after, same, part, breaks, told, others) end all =
      let records : b.part.records ++ b.breaking ∷ after ≡ drop b.part.past items = rw same at is in
      let on = rest_after_rest items b.part.past b.part.records b.breaking b.reason after records in
      omega (
        arith,
        none_told (in_parts profile) b.part.past [] (b.part.records ++ b.breaking ∷ []) after b.events (rw (append_assoc b.part.records (b.breaking ∷ []) after, records) (none_left b.part.past)) told,
        none_in_parts (rest_after (b.part.past + length b.part.records) b.reason b.breaking after) left broken last on others end all,
        ap late_replies (append_assoc b.events (events_of broken) last.events) ∙ late_joined b.events (events_of broken ++ last.events),
      )

-- ---- a capture at such times

-- as long after the one before it on its own wire, and at once after one on the other
abbrev pause : Wire → Wire → ℕ → ℕ
pause Controller Controller n = n
pause Deck Deck n = n
pause v w n = 0

times_after : (last before : LineByte) (records : List LineByte) → last.wire ≡ before.wire → last.byte ≡ before.byte → IsNonDecreasingBy (λ r. r.time_us) (last ∷ records)
    → (others : List LineByte) × AreRetimed (last ∷ records) (before ∷ others) × NoneIsLate (before ∷ others)
times_after last before [] wire byte rising = ([], (wire, byte, tt, tt), tt)
times_after last before (r ∷ records) wire byte rising =
    let s : LineByte = record r { time_us = before.time_us + pause last.wire r.wire (r.time_us - last.time_us) } in
    let later : last.time_us ≤ r.time_us = rising 0 1 last (omega arith) (omega arith) in
    let more = times_after r s records refl refl (IsNonDecreasingBy-drop (λ r. r.time_us) 1 (last ∷ r ∷ records) rising) in (
      s ∷ more.0,
      (wire, byte, (λ same. grind (arith, same, later), (λ h. omega arith, λ h. later)), more.1),
      (λ first second. (let at_once : pause last.wire r.wire (r.time_us - last.time_us) ≡ 0 = rw (wire ∙ first, second) refl in omega (arith, at_once)), more.2),
    )

pub times_in_time : (items : List LineByte) → IsNonDecreasingBy (λ r. r.time_us) items → (others : List LineByte) × AreRetimed items others × NoneIsLate others
times_in_time [] rising = ([], tt, tt)
times_in_time (r ∷ records) rising = let m = times_after r r records refl refl rising in (r ∷ m.0, m.1, m.2)
