-- The parts of a capture where more records come before them: the same with other numbers.
use Rattle.judge9.proofs.Words.{[], ap, AreEvents, AreEventsAt, AreParts, AreTotals, arith, BrokenPart, Event, events_of, exchange, exchanges_of, from_command}
use Rattle.judge9.proofs.Words.{in_parts, IsEvent, IsPart, late_replies, late_reply, length, length-map, LineByte, List, map, Option, Part, Profile, Reason, refl, Rest}
use Rattle.judge9.proofs.Words.{rest_after, Some, Terms, Totals, ℕ, ◌++◌, ◌+◌, ◌∙◌, ◌∷◌, ◌≡◌}
use Rattle.judge9.specs.Renumbered.{renumbered_break, renumbered_event, renumbered_part, renumbered_rest, renumbered_totals}
use Rattle.judge9.proofs.EventSteps.{late_joined}
use Rattle.std.proofs.lemmas.List.{map-append}

module _ (n : ℕ) where
  -- what is told of records
  at_renumbered : (terms : Terms) (past : ℕ) (before : List LineByte) (r : LineByte) (events : List Event) → AreEventsAt terms past before r events
      → AreEventsAt terms (n + past) before r (map (renumbered_event n) events)
  at_renumbered terms past before r (late_reply at asked first ∷ events) ((number, one, aside, late, has_cut), nil) =
      ((omega (arith, number), one, aside, late, has_cut), ap (map (renumbered_event n)) nil)
  at_renumbered terms past before r (exchange at es e ∷ events) ((number, cut, run), nil) = ((omega (arith, number), cut, run), ap (map (renumbered_event n)) nil)
  at_renumbered terms past before r [] none = by
    where
      by : (event : Event) → IsEvent terms (n + past) before r event → ⊥
      by (late_reply at asked first) (number, one, aside, late, has_cut) = none (late_reply (past + length before + 1) asked first) (refl, one, aside, late, has_cut)
      by (exchange at es e) (number, cut, run) = none (exchange (past + length before + 1) es e) (refl, cut, run)

  events_renumbered : (terms : Terms) (past : ℕ) (before records : List LineByte) (events : List Event) → AreEvents terms past before records events
      → AreEvents terms (n + past) before records (map (renumbered_event n) events)
  events_renumbered terms past before [] events is = ap (map (renumbered_event n)) is
  events_renumbered terms past before (r ∷ records) events (some, more, begins, are, is) = (
    map (renumbered_event n) some,
    map (renumbered_event n) more,
    at_renumbered terms past before r some begins,
    events_renumbered terms past (before ++ r ∷ []) records more are,
    ap (map (renumbered_event n)) is ∙ map-append (renumbered_event n) some more,
  )

  late_renumbered : (events : List Event) → late_replies (map (renumbered_event n) events) ≡ late_replies events
  late_renumbered [] = refl
  late_renumbered (late_reply at asked r ∷ events) = omega (arith, late_renumbered events)
  late_renumbered (exchange at before e ∷ events) = late_renumbered events

  -- a part
  pub part_renumbered : (profile : Profile) (part : Part) → IsPart (in_parts profile) part → IsPart (in_parts profile) (renumbered_part n part)
  part_renumbered profile part is = record { cut = is.cut; run = is.run; are_events = events_renumbered (in_parts profile) part.past [] part.records part.events is.are_events }

  -- where the next one begins
  from_renumbered : (past : ℕ) (last : Option LineByte) (records : List LineByte) → from_command (n + past) last records ≡ renumbered_rest n (from_command past last records)
  from_renumbered past last [] = refl
  from_renumbered past last (r ∷ records) = let later = from_renumbered (past + 1) (Some r) records in grind arith

  rest_renumbered : (past : ℕ) (reason : Reason) (breaking : LineByte) (after : List LineByte) → rest_after (n + past) reason breaking after ≡ renumbered_rest n (rest_after past reason breaking after)
  rest_renumbered past reason breaking after = let later = from_renumbered (past + 1) (Some breaking) after in grind arith

  -- all parts
  pub parts_renumbered : (profile : Profile) (rest left : Rest) (broken : List BrokenPart) → AreParts (in_parts profile) rest broken left
      → AreParts (in_parts profile) (renumbered_rest n rest) (map (renumbered_break n) broken) (renumbered_rest n left)
  parts_renumbered profile rest left [] is = ap (renumbered_rest n) is
  parts_renumbered profile rest left (b ∷ broken) (after, same, part, breaks, told, others) =
      let size = b.part.past + length b.part.records in
      let past : n + size ≡ n + b.part.past + length b.part.records = omega arith in (
        after,
        ap (renumbered_rest n) same,
        part_renumbered profile b.part part,
        breaks,
        events_renumbered (in_parts profile) b.part.past [] (b.part.records ++ b.breaking ∷ []) b.events told,
        rw (← past, rest_renumbered size b.reason b.breaking after) (parts_renumbered profile (rest_after size b.reason b.breaking after) left broken others),
      )

  -- and what is counted of them
  exchanges_renumbered : (broken : List BrokenPart) → exchanges_of (map (renumbered_break n) broken) ≡ exchanges_of broken
  exchanges_renumbered [] = refl
  exchanges_renumbered (b ∷ broken) = ap (λ l. b.part.exchanges ++ l) (exchanges_renumbered broken)

  late_of : (broken : List BrokenPart) → late_replies (events_of (map (renumbered_break n) broken)) ≡ late_replies (events_of broken)
  late_of [] = refl
  late_of (b ∷ broken) =
      omega (arith, late_joined (map (renumbered_event n) b.events) (events_of (map (renumbered_break n) broken)), late_joined b.events (events_of broken), late_renumbered b.events, late_of broken)

  pub totals_renumbered : (records : ℕ) (broken : List BrokenPart) (last : Part) (t : Totals) → AreTotals records broken last t
      → AreTotals (n + records) (map (renumbered_break n) broken) (renumbered_part n last) (renumbered_totals n t)
  totals_renumbered records broken last t are = record {
    breaks = omega (
      arith,
      are.breaks,
      length-map broken (renumbered_break n),
      late_joined (events_of broken) last.events,
      late_joined (events_of (map (renumbered_break n) broken)) (map (renumbered_event n) last.events),
      late_of broken,
      late_renumbered last.events,
    );
    all_records = ap (λ m. n + m) are.all_records;
    exchanges = rw (exchanges_renumbered broken) are.exchanges;
    tail = are.tail;
    passed_over = rw (exchanges_renumbered broken) (omega (arith, are.passed_over));
  }
