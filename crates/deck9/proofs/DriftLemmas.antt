-- Which states a drift reaches.
use Rattle.deck9.proofs.Words.{Clear, ComesToShow, Deck, either, Entry, entry_of, Exchange, Going, has, IsEntry, KeepsRest, loses, may_lose, MovesAndSteps, Option, PassesOne, Profile}
use Rattle.deck9.proofs.Words.{Rate, RegAudioIn, RegAudioOut, RegIn, RegOut, Register, runs, StaysOrLost, Steps, way_of, with_entry, ◌++◌, ◌||◌}
use Rattle.deck9.proofs.Words.{[], ap, arith, arrives, Drift, DriftsTo, halts, handled, inl, inr, IsState, List, Mode, Move, Moves, PairReaches}
use Rattle.deck9.proofs.Words.{passes, refl, State, Stop, subst, sym, true, ◌∙◌, ◌∷◌, ◌≡◌, ◌⊎◌}
use Rattle.deck9.proofs.ModeSetLemmas.{has-or}

-- ---- drifts in a row

moves_join : (profile : Profile) (on : Going) (us vs : List State) (s t u : State) → Moves profile on s us t → Moves profile on t vs u → Moves profile on s (us ++ vs) u
moves_join profile on [] vs s t u m n = subst (λ x. Moves profile on x vs u) m n
moves_join profile on (v ∷ us) vs s t u m n = (m.0, moves_join profile on us vs v t u m.1 n)

pub drift_join : (profile : Profile) (on : Going) (s t u : State) → Drift profile on s t → Drift profile on t u → Drift profile on s u
drift_join profile on s t u d e = (d.0 ++ e.0, moves_join profile on d.0 e.0 s t u d.1 e.1)

-- ---- what stays

-- goal and shown mode play no part in the rest
pub rest_modes : (on : Going) (s t : State) (g m : Mode) → KeepsRest on (record s { goal = g; shown = m }) t → KeepsRest on s t
rest_modes on s t g m k = record { registers = λ r. subst (λ e. StaysOrLost on r e (entry_of r t)) (read_modes r) (k.registers r); local = k.local; panel = k.panel }
  where
    read_modes : (r : Register) → entry_of r (record s { goal = g; shown = m }) ≡ entry_of r s
    read_modes RegIn = refl
    read_modes RegOut = refl
    read_modes RegAudioIn = refl
    read_modes RegAudioOut = refl

-- what stays is of the day, and so is what is lost
pub kept_valid : (rate : Rate) (on : Going) (u t : State) → KeepsRest on u t → IsState rate u → IsState rate t
kept_valid rate on u t k valid = λ r. elim (k.registers r) [
  | inl same ↦ subst (IsEntry rate) (sym same) (valid r)
  | inr w ↦ subst (IsEntry rate) (sym w.1) tt
]

lost_then : (on : Going) (s t : State) (r q : Register) → may_lose on.lost r ≡ true
    → StaysOrLost on q (entry_of q (with_entry r Clear s)) (entry_of q t) → StaysOrLost on q (entry_of q s) (entry_of q t)
lost_then on s t r q may w = grind arith

put_modes : (r : Register) (e : Entry) (s : State)
    → ((with_entry r e s).goal ≡ s.goal) × ((with_entry r e s).shown ≡ s.shown) × ((with_entry r e s).local ≡ s.local) × ((with_entry r e s).panel ≡ s.panel)
put_modes RegIn e s = (refl, refl, refl, refl)
put_modes RegOut e s = (refl, refl, refl, refl)
put_modes RegAudioIn e s = (refl, refl, refl, refl)
put_modes RegAudioOut e s = (refl, refl, refl, refl)

-- ---- one move before a drift

from_stop : (deck : Option Deck) (on : Going) (g m g' m' : Mode) → PairReaches deck on Stop Stop g' m' → PairReaches deck on g m g' m'
from_stop deck on g m g' m' reach = grind arith

to_shown : (deck : Option Deck) (on : Going) (g m n g' m' : Mode) → ComesToShow deck on g n → PairReaches deck on g n g' m' → PairReaches deck on g m g' m'
to_shown deck on g m n g' m' comes reach = grind arith

carry : (profile : Profile) (on : Going) (s t : State) (n : Mode) → ComesToShow profile.deck on s.goal n → DriftsTo profile on (record s { shown = n }) t
    → DriftsTo profile on s t
carry profile on s t n comes d = elim d [
  | inl w ↦ inl (rest_modes on s t s.goal n w.0, to_shown profile.deck on s.goal s.shown n t.goal t.shown comes w.1)
  | inr w ↦ inr w
]

lose_first : (profile : Profile) (on : Going) (s t : State) (r : Register) → may_lose on.lost r ≡ true → DriftsTo profile on (with_entry r Clear s) t → DriftsTo profile on s t
lose_first profile on s t r may d =
    let same = put_modes r Clear s in
    elim d [
      | inl w ↦ inl (
        record { registers = λ q. lost_then on s t r q may (w.0.registers q); local = w.0.local ∙ same.2; panel = w.0.panel ∙ same.3 },
        subst (λ m. PairReaches profile.deck on s.goal m t.goal t.shown) same.1 (subst (λ g. PairReaches profile.deck on g (with_entry r Clear s).shown t.goal t.shown) same.0 w.1),
      )
      | inr w ↦ inr (w.0, sym same.3 ∙ w.1, w.2, w.3)
    ]

before : (profile : Profile) (on : Going) (s u t : State) → Move profile on s u → DriftsTo profile on u t → DriftsTo profile on s t
before profile on s u t (arrives e) d = carry profile on s t s.goal (inl refl) (subst (λ v. DriftsTo profile on v t) e d)
before profile on s u t (passes m way e) d = carry profile on s t m (inr (inl way)) (subst (λ v. DriftsTo profile on v t) e d)
before profile on s u t (runs m going e) d = carry profile on s t m (inr (inr going)) (subst (λ v. DriftsTo profile on v t) e d)
before profile on s u t (halts at_goal e) d = elim (subst (λ v. DriftsTo profile on v t) e d) [
  | inl w ↦ inl (rest_modes on s t Stop Stop w.0, from_stop profile.deck on s.goal s.shown t.goal t.shown w.1)
  | inr w ↦ inr w
]
before profile on s u t (loses r may e) d = lose_first profile on s t r may (subst (λ v. DriftsTo profile on v t) e d)
before profile on s u t (handled allowed switched still valid) d = elim d [
  | inl w ↦ inr (allowed, switched, w.0.panel ∙ still, kept_valid profile.rate on u t w.0 valid)
  | inr w ↦ inr (allowed, switched, w.2, w.3)
]

-- no move at all
pub keeps_all : (on : Going) (s : State) → KeepsRest on s s
keeps_all on s = record { registers = λ r. inl refl; local = refl; panel = refl }

pub pairs_from_moves : (profile : Profile) (on : Going) (us : List State) (s t : State) → Moves profile on s us t → DriftsTo profile on s t
pairs_from_moves profile on [] s t e = subst (DriftsTo profile on s) (sym e) (inl (keeps_all on s, inl (refl, inl refl)))
pairs_from_moves profile on (u ∷ us) s t m = before profile on s u t m.0 (pairs_from_moves profile on us u t m.1)

pub pairs_from_drift : (profile : Profile) (on : Going) (s t : State) → Drift profile on s t → DriftsTo profile on s t
pairs_from_drift profile on s t d = pairs_from_moves profile on d.0 s t d.1

-- ---- a drift to each of these states

pairs_alone : (profile : Profile) (on : Going) (s t : State) → t ≡ record s { goal = t.goal; shown = t.shown } → PairReaches profile.deck on s.goal s.shown t.goal t.shown
    → Drift profile on s t
pairs_alone profile on s t keeps (inl (same, inl shown)) = ([], keeps ∙ rw (same, shown) refl)
pairs_alone profile on s t keeps (inl (same, inr (inl shown))) = (t ∷ [], (arrives (keeps ∙ rw (same, shown) refl), refl))
pairs_alone profile on s t keeps (inl (same, inr (inr (inl way)))) = (t ∷ [], (passes t.shown way (keeps ∙ rw same refl), refl))
pairs_alone profile on s t keeps (inl (same, inr (inr (inr going)))) = (t ∷ [], (runs t.shown going (keeps ∙ rw same refl), refl))
pairs_alone profile on s t keeps (inr (stop, inl shown)) = (
  record s { shown = s.goal } ∷ t ∷ [],
  (arrives refl, (halts refl (keeps ∙ rw (stop, shown) refl), refl)),
)
pairs_alone profile on s t keeps (inr (stop, inr (inl way))) = (
  record s { shown = s.goal } ∷ record s { goal = Stop; shown = Stop } ∷ t ∷ [],
  (arrives refl, (halts refl refl, (passes t.shown way (keeps ∙ rw stop refl), refl))),
)
pairs_alone profile on s t keeps (inr (stop, inr (inr going))) = (
  record s { shown = s.goal } ∷ record s { goal = Stop; shown = Stop } ∷ t ∷ [],
  (arrives refl, (halts refl refl, (runs t.shown going (keeps ∙ rw stop refl), refl))),
)

put_back : (r : Register) (e : Entry) (s : State) → e ≡ entry_of r s → with_entry r e s ≡ s
put_back r e s same = grind arith

lose_one : (profile : Profile) (on : Going) (r : Register) (e : Entry) (s : State) → StaysOrLost on r (entry_of r s) e → Drift profile on s (with_entry r e s)
lose_one profile on r e s (inl same) = ([], put_back r e s same)
lose_one profile on r e s (inr (may, clear)) = (with_entry r e s ∷ [], (loses r may (ap (λ f. with_entry r f s) clear), refl))

pub drift_from_pairs : (profile : Profile) (on : Going) (s t : State) → DriftsTo profile on s t → Drift profile on s t
drift_from_pairs profile on s t (inr (allowed, switched, still, valid)) = (t ∷ [], (handled allowed switched still valid, refl))
drift_from_pairs profile on s t (inl (k, pairs)) =
    let first = with_entry RegIn t.ins s in
    let second = with_entry RegOut t.outs first in
    let third = with_entry RegAudioIn t.ains second in
    let last = with_entry RegAudioOut t.aouts third in
    drift_join profile on s first t (lose_one profile on RegIn t.ins s (k.registers RegIn))
    (drift_join profile on first second t (lose_one profile on RegOut t.outs first (k.registers RegOut))
    (drift_join profile on second third t (lose_one profile on RegAudioIn t.ains second (k.registers RegAudioIn))
    (drift_join profile on third last t (lose_one profile on RegAudioOut t.aouts third (k.registers RegAudioOut))
    (pairs_alone profile on last t (rest_is k.local k.panel) pairs))))
  where
    rest_is : t.local ≡ s.local → t.panel ≡ s.panel
        → t ≡ record s { goal = t.goal; shown = t.shown; ins = t.ins; outs = t.outs; ains = t.ains; aouts = t.aouts }
    rest_is local panel = rw (sym local, sym panel) refl

-- ---- a drift, and then a step

-- the ways in which a drift and then a step can lead to a state, where nothing more of the registers is lost
abbrev pub FiveWays : Profile → Going → Exchange → State → State → Type 0
FiveWays p on e s t =
    Steps p e s t ⊎ (Steps p e (record s { shown = s.goal }) t ⊎ (PassesOne p on e s t ⊎ (Steps p e (record s { goal = Stop; shown = Stop }) t
    ⊎ PassesOne p on e (record s { goal = Stop }) t)))

by_way : (deck : Option Deck) (on : Going) (g m : Mode) → (has (way_of deck g).0 m ≡ true) ⊎ (has on.modes.0 m ≡ true) → has (either (way_of deck g) on.modes).0 m ≡ true
by_way deck on g m w = has-or (way_of deck g).0 on.modes.0 m ∙ grind arith

from_way : (deck : Option Deck) (on : Going) (g m : Mode) → has (either (way_of deck g) on.modes).0 m ≡ true → (has (way_of deck g).0 m ≡ true) ⊎ (has on.modes.0 m ≡ true)
from_way deck on g m w = let either_has = sym (has-or (way_of deck g).0 on.modes.0 m) ∙ w in grind arith

pub five_from_moves : (p : Profile) (on : Going) (e : Exchange) (s t : State) → MovesAndSteps p on e s t → FiveWays p on e s t
five_from_moves p on e s t (g, m, inl (same, inl shown), steps) = inl (subst (λ v. Steps p e v t) (rw (same, shown) refl) steps)
five_from_moves p on e s t (g, m, inl (same, inr (inl shown)), steps) = inr (inl (subst (λ v. Steps p e v t) (rw (same, shown) refl) steps))
five_from_moves p on e s t (g, m, inl (same, inr (inr way)), steps) =
    inr (inr (inl (m, (by_way p.deck on s.goal m way, subst (λ v. Steps p e v t) (rw same refl) steps))))
five_from_moves p on e s t (g, m, inr (stop, inl shown), steps) = inr (inr (inr (inl (subst (λ v. Steps p e v t) (rw (stop, shown) refl) steps))))
five_from_moves p on e s t (g, m, inr (stop, inr way), steps) =
    inr (inr (inr (inr (m, (by_way p.deck on Stop m way, subst (λ v. Steps p e v t) (rw stop refl) steps)))))

pub moves_from_five : (p : Profile) (on : Going) (e : Exchange) (s t : State) → FiveWays p on e s t → MovesAndSteps p on e s t
moves_from_five p on e s t (inl steps) = (s.goal, s.shown, inl (refl, inl refl), steps)
moves_from_five p on e s t (inr (inl steps)) = (s.goal, s.goal, inl (refl, inr (inl refl)), steps)
moves_from_five p on e s t (inr (inr (inl (m, (way, steps))))) = (s.goal, m, inl (refl, inr (inr (from_way p.deck on s.goal m way))), steps)
moves_from_five p on e s t (inr (inr (inr (inl steps)))) = (Stop, Stop, inr (refl, inl refl), steps)
moves_from_five p on e s t (inr (inr (inr (inr (m, (way, steps)))))) = (Stop, m, inr (refl, inr (from_way p.deck on Stop m way)), steps)
