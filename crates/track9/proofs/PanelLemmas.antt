-- All states after a deed, also where hands are allowed on the panel.
use Rattle.track9.proofs.Words.{Acts, Deed, Everything, Deck, is_wide, nat_cmp}
use Rattle.track9.proofs.Words.{[], after_panel, all_drifted, all_or_none, AllLeadOn, ap, AreBelow, AreFew, AreReached, AreWhole, Bool}
use Rattle.track9.proofs.Words.{cond_both, Does, Drift, drift_from_pairs, DriftsAndGoes, either_panel}
use Rattle.track9.proofs.Words.{false, false≢true, first_states, Follows, Hands, hands_by, hands_of, if◌then◌else◌}
use Rattle.track9.proofs.Words.{in_local, inl, InPart, inr, InHalves, remains_with_panel_on, IsIn, AreTracked, IsState}
use Rattle.track9.proofs.Words.{LeadsOn, None, on_halves, Option, panel_passed, Possible, Presets, refl}
use Rattle.track9.proofs.Words.{Some, states_remain, State, States, subst, switched, sym, true, halves_moved, halves_of, HalvesBelow, HalvesFew, Halves}
use Rattle.track9.proofs.Words.{Profile, Rate, states_rate, halves_rate, untouched, HalvesWhole, ◌↔◌, ◌∙◌, ◌≡◌, ◌⊎◌}
use Rattle.track9.specs.Working.Acting.{Acted}
use Rattle.deck9.specs.declared.effect.Effect.TheVariants as effect
use Rattle.track9.specs.declared.deed.Deed.TheVariants as deed
use Rattle.deck9.specs.declared.state.Hands.TheVariants as hands
use Rattle.track9.proofs.EffectLemmas.{leads_same, leads_then}
use Rattle.track9.proofs.LoseLemmas.{moved_all, moved_few, moved_leads, moved_whole}
use Rattle.track9.proofs.PartLemmas.{all_exactly, both_few, by_panel, drift_panel, drift_state, few_halves, first_exactly, live_some}
use Rattle.track9.proofs.PartLemmas.{of_rate, off_drift, whole_rate, whole_in, possible_state, same_drift, some_live, state_is, halves_live, halves_none, halves_state, whole_halves}
use Rattle.std.proofs.Common.{arith}
use Rattle.std.specs.FinSet as set

-- a deck of a rate whose panel somebody may touch
abbrev pub touched : Option Deck → Rate → Profile
touched deck rate = record { rate = rate; hands = hands.Allowed; deck = deck }

-- ---- where hands are not allowed

keeps_panel : (deck : Option Deck) (rate : Rate) (d : Deed) (s t : State) → Acts d (untouched deck rate) s t → t.panel ≡ s.panel
keeps_panel deck rate d s t acts = grind arith

pub take_panel : (acted : Acted) (rate : Rate) (d : Deed) (s t : State) → DriftsAndGoes (Acts d) (untouched acted.deck rate) acted.on s t → t.panel ≡ s.panel
take_panel acted rate d s t (u, drift, acts) = keeps_panel acted.deck rate d u t acts ∙ drift_panel (untouched acted.deck rate) acted.on s u drift

-- then there is nothing with the panel on
pub none_on : (o : Option Halves) → hands_by o ≡ hands.None → o ≡ None
none_on o e = grind arith

abbrev pub panel_off : Halves → States
panel_off h = record { off = h; on = None }

pub leads_off : (deck : Option Deck) (rate : Rate) (Goes : Profile → State → State → Type 0) (count : Presets → Presets)
    → ((s t : State) → Goes (untouched deck rate) s t → t.panel ≡ s.panel) → (h g : Halves) → LeadsOn rate (Goes (untouched deck rate)) count h g
    → AllLeadOn (untouched deck rate) (Goes (untouched deck rate)) count (panel_off h) (panel_off g)
leads_off deck rate Goes count keeps h g leads = record {
  reached = by_panel (Goes (untouched deck rate)) keeps (panel_off h) (panel_off g) (leads.reached false)
      (λ t i. halves_none (halves_rate g) t i.1, λ s t i goes. halves_none (halves_rate h) s i.1);
  profile = ap (untouched deck) (whole_rate rate g leads.whole);
  whole = record { off = leads.whole; on = whole_halves rate false };
  few = λ n few. both_few (count n) (panel_off g) (leads.few n (few false)) (few_halves (halves_rate g) (count n) false);
}

-- all times of two parts are times of the day
pub below_off : (h : Halves) → HalvesBelow h → AreBelow (panel_off h)
below_off h below = record { off = below; on = λ l r t e. grind (arith, set.contains-empty nat_cmp) }

-- ---- where a hand makes no difference to the step

-- a deck of a rate, with hands or without
abbrev pub deck_of : Option Deck → Rate → Hands → Profile
deck_of deck rate h = record { rate = rate; hands = h; deck = deck }

pub record IsNarrow (acted : Acted) (rate : Rate) (Goes : Profile → State → State → Type 0) : Type 0 where
  pub same : (h k : Hands) (s t : State) → Goes (deck_of acted.deck rate h) s t → Goes (deck_of acted.deck rate k) s t
  pub panel : (s t : State) → DriftsAndGoes Goes (untouched acted.deck rate) acted.on s t → t.panel ≡ s.panel

pub narrow_take : (acted : Acted) (rate : Rate) (d : Deed) → is_wide d ≡ false → IsNarrow acted rate (Acts d)
narrow_take acted rate d narrow = record { same = λ h k s t acts. grind (arith, narrow); panel = take_panel acted rate d }

-- a set of states where hands are allowed
abbrev pub with_hands : Halves → Halves → States
with_hands off on = record { off = off; on = Some on }

both_lead : (deck : Option Deck) (Goes : State → State → Type 0) (count : Presets → Presets) (v : States) (off on : Halves) → HalvesWhole (states_rate v) off
    → HalvesWhole (states_rate v) on → ((n : Presets) → AreFew n v → HalvesFew (count n) off × HalvesFew (count n) on)
    → AreReached (Possible v) Goes (Possible (with_hands off on)) → AllLeadOn (touched deck (states_rate v)) Goes count v (with_hands off on)
both_lead deck Goes count v off on whole_off whole_on few reached = record {
  reached = reached;
  profile = ap (touched deck) (whole_rate (states_rate v) off whole_off);
  whole = record { off = whole_off; on = whole_on };
  few = λ n h. both_few (count n) (with_hands off on) (few n h).0 (few n h).1;
}

-- a hand leads from a state with the panel on to any
pub leads_both : (acted : Acted) (Goes : Profile → State → State → Type 0) (count : Presets → Presets) (v : States) (off on : Halves) → IsNarrow acted (states_rate v) Goes
    → AreWhole (states_rate v) v → AreBelow v
    → LeadsOn (states_rate v) (DriftsAndGoes Goes (untouched acted.deck (states_rate v)) acted.on) count v.off off
    → LeadsOn (states_rate v) (DriftsAndGoes Goes (untouched acted.deck (states_rate v)) acted.on) count (all_or_none (states_rate v) (remains_with_panel_on v)) on
    → AllLeadOn (touched acted.deck (states_rate v)) (DriftsAndGoes Goes (touched acted.deck (states_rate v)) acted.on) count v (with_hands off on)
leads_both acted Goes count v off on narrow whole below first second = both_lead acted.deck (DriftsAndGoes Goes (touched acted.deck (states_rate v)) acted.on) count v off on first.whole second.whole
    (λ n few. (first.few n (few false), second.few n (few_halves (states_rate v) n (remains_with_panel_on v))))
    (by_panel (DriftsAndGoes Goes (touched acted.deck (states_rate v)) acted.on) keeps v (with_hands off on) off_reached on_reached)
  where
    rate : Rate
    rate = states_rate v

    keeps : (s t : State) → DriftsAndGoes Goes (touched acted.deck rate) acted.on s t → t.panel ≡ s.panel
    keeps s t (d, drift, step) = narrow.panel d t (d, ([], refl), narrow.same hands.Allowed hands.None d t step) ∙ drift_panel (touched acted.deck rate) acted.on s d drift

    off_reached : AreReached (InHalves false v.off) (DriftsAndGoes Goes (touched acted.deck rate) acted.on) (InHalves false off)
    off_reached = (
      λ t i. let a = (first.reached false).0 t i in (
        a.0,
        a.1,
        (a.2.0, same_drift (touched acted.deck rate) acted.on a.0 a.2.0 a.2.1, narrow.same hands.None hands.Allowed a.2.0 t a.2.2),
      ),
      λ s t i w. (first.reached false).1 s t i (w.0, off_drift (touched acted.deck rate) acted.on s w.0 i.0 w.1, narrow.same hands.Allowed hands.None w.0 t w.2),
    )

    on_reached : AreReached (InHalves true (on_halves rate v.on)) (DriftsAndGoes Goes (touched acted.deck rate) acted.on) (InHalves true on)
    on_reached = (
      λ t i.
          let a = (second.reached true).0 t i in
          let all = (all_exactly rate (remains_with_panel_on v) a.0).0 a.1.1 in
          let s = halves_state rate (halves_of v true) true whole.on all.0 in
          let drift = drift_from_pairs (touched acted.deck rate) acted.on s.0 a.2.0 (inr
          (refl, s.1.0, drift_panel (untouched acted.deck rate) acted.on a.0 a.2.0 a.2.1 ∙ a.1.0, drift_state (untouched acted.deck rate) acted.on a.0 a.2.0 all.1 a.2.1)) in
          (s.0, s.1, (a.2.0, drift, narrow.same hands.None hands.Allowed a.2.0 t a.2.2)),
      λ s t i (d, drift, step).
          let e = drift_state (touched acted.deck rate) acted.on s d (state_is rate (in_local (on_halves rate v.on) s.local) s (of_rate rate (in_local (on_halves rate v.on) s.local) (whole_in rate (on_halves rate v.on) whole.on s.local)) (below.on s.local) i.1) drift in
          (second.reached true).1 d t (drift_panel (touched acted.deck rate) acted.on s d drift ∙ i.0, (all_exactly rate (remains_with_panel_on v) d).1 (halves_live (on_halves rate v.on) s i.1, e))
          (d, ([], refl), narrow.same hands.Allowed hands.None d t step),
    )

-- ---- a drift alone

drift_reaches : (acted : Acted) (v : States) → AreWhole (states_rate v) v → AreBelow v
    → AreReached (Possible v) (Drift (touched acted.deck (states_rate v)) acted.on) (Possible (all_drifted acted v))
drift_reaches acted v whole below = (
  λ t i. let w = all.reached.0 t i in (w.0, w.1, subst (Drift (touched acted.deck rate) acted.on w.0) (sym w.2.2) w.2.1),
  λ s t i drift. all.reached.1 s t i (t, drift, refl),
)
  where
    rate : Rate
    rate = states_rate v

    stays : (h : Halves) → HalvesWhole rate h → LeadsOn rate (DriftsAndGoes (λ p s t. t ≡ s) (untouched acted.deck rate) acted.on) (λ n. n) h (halves_moved acted h)
    stays h whole = leads_then rate (Drift (untouched acted.deck rate) acted.on) (λ s t. t ≡ s) (λ n. n) (λ n. n) h (halves_moved acted h) (halves_moved acted h) (moved_leads acted rate h whole)
        (leads_same rate (halves_moved acted h) (moved_whole acted rate h whole))

    all : AllLeadOn (touched acted.deck rate) (DriftsAndGoes (λ p s t. t ≡ s) (touched acted.deck rate) acted.on) (λ n. n) v (all_drifted acted v)
    all = let on = all_or_none rate (remains_with_panel_on v) in leads_both acted (λ p s t. t ≡ s) (λ n. n) v (halves_moved acted v.off) on
        (record { same = λ h k s t e. e; panel = λ s t w. ap (λ (u : State). u.panel) w.2 ∙ drift_panel (untouched acted.deck rate) acted.on s w.0 w.1 }) whole below (stays v.off whole.off)
        (subst (LeadsOn rate (DriftsAndGoes (λ p s t. t ≡ s) (untouched acted.deck rate) acted.on) (λ n. n) on) (moved_all acted rate (remains_with_panel_on v)) (stays on (whole_halves rate (remains_with_panel_on v))))

-- ---- the panel is switched

-- a part does not tell the panel
in_panel : (h : Halves) (t : State) (b : Bool) → InPart (in_local h t.local) t → InHalves b h (record t { panel = b })
in_panel h t b i = grind arith

-- with the other value of the panel there is none
switched_exactly : (rate : Rate) (on : Bool) (h : Halves) (t : State) → Possible (switched rate on h) t ↔ InHalves on h t
switched_exactly rate on h t = grind arith

either_whole : (acted : Acted) (v : States) → AreWhole (states_rate v) v → HalvesWhole (states_rate v) (either_panel acted v)
either_whole acted v whole = grind (arith, whole_halves (states_rate v) true, moved_whole acted (states_rate v) v.off whole.off)

either_few : (acted : Acted) (v : States) (n : Presets) → AreFew n v → HalvesFew n (either_panel acted v)
either_few acted v n few = grind (arith, few_halves (states_rate v) n true, moved_few acted n v.off (few false))

-- a state that a drift leads to is one of those put together whatever the panel, and each of them is one, with some value of the panel
either_to : (acted : Acted) (v : States) (t : State) (pn : Bool) → IsState (states_rate v) t → IsIn (if pn then (all_drifted acted v).on else Some (all_drifted acted v).off) t
    → InPart (in_local (either_panel acted v) t.local) t
either_to acted v t pn valid i = cond_both (remains_with_panel_on v) (all_or_none (states_rate v) true) (halves_moved acted v.off) (λ h. InPart (in_local h t.local) t)
    (λ on. (all_exactly (states_rate v) true t).1 (refl, valid)) (λ off. grind (arith, i, off, all_exactly (states_rate v) false t))

either_from : (acted : Acted) (v : States) (t : State) → InPart (in_local (either_panel acted v) t.local) t → (pn : Bool) × Possible (all_drifted acted v) (record t { panel = pn })
either_from acted v t i = (elim (remains_with_panel_on v) as (λ b. InPart (in_local (if b then all_or_none (states_rate v) true else halves_moved acted v.off) t.local) t
    → (pn : Bool) × IsIn (if pn then Some (all_or_none (states_rate v) b) else Some (halves_moved acted v.off)) (record t { panel = pn }))
    [ true ↦ λ i. (true, (in_panel (all_or_none (states_rate v) true) t true i).1) | false ↦ λ i. (false, (in_panel (halves_moved acted v.off) t false i).1) ]) i

panel_reached : (acted : Acted) (on : Bool) (v : States) → AreWhole (states_rate v) v → AreBelow v
    → AreReached (Possible v) (DriftsAndGoes (λ p. Does p (effect.Panel on)) (touched acted.deck (states_rate v)) acted.on) (Possible (after_panel acted on v))
panel_reached acted on v whole below = let drifts = drift_reaches acted v whole below in (
  λ t i.
      let here = (switched_exactly (states_rate v) on (either_panel acted v) t).0 i in let w = either_from acted v t here.1 in let a = drifts.0 (record t { panel = w.0 }) w.1 in
      (a.0, a.1, (record t { panel = w.0 }, a.2, ap (λ b. record t { panel = b }) here.0)),
  λ s t i (d, drift, same). rw same ((switched_exactly (states_rate v) on (either_panel acted v) (record d { panel = on })).1 (in_panel (either_panel acted v) d on
      (either_to acted v d d.panel (drift_state (touched acted.deck (states_rate v)) acted.on s d (possible_state (states_rate v) v s whole below i) drift) (drifts.1 s d i drift)))),
)

pub follows_panel : (acted : Acted) (on : Bool) (v : States) → AreWhole (states_rate v) v → AreBelow v
    → Follows (touched acted.deck (states_rate v)) acted.on (deed.Apply (effect.Panel on) false) v (after_panel acted on v)
follows_panel acted on v whole below = let goes = panel_reached acted on v whole below in by on (
  λ t i. let a = goes.0 t i in (a.0, a.1, (a.2.0, a.2.1, inl a.2.2)),
  λ s t i (d, drift, acts). elim acts [ inl does ↦ goes.1 s t i (d, drift, does) | inr (stays, e) ↦ absurd (false≢true stays) ],
)
  where
    by : (on : Bool) → AreReached (Possible v) (DriftsAndGoes (Acts (deed.Apply (effect.Panel on) false)) (touched acted.deck (states_rate v)) acted.on) (Possible (after_panel acted on v))
        → Follows (touched acted.deck (states_rate v)) acted.on (deed.Apply (effect.Panel on) false) v (after_panel acted on v)
    by true r = both_lead acted.deck _ _ v (all_or_none (states_rate v) false) (either_panel acted v) (whole_halves (states_rate v) false) (either_whole acted v whole)
        (λ n h. (few_halves (states_rate v) n false, either_few acted v n h)) r
    by false r = both_lead acted.deck _ _ v (either_panel acted v) (all_or_none (states_rate v) false) (either_whole acted v whole) (whole_halves (states_rate v) false)
        (λ n h. (either_few acted v n h, few_halves (states_rate v) n false)) r

-- ---- everything is forgotten

pub first_tracked : (rate : Rate) (h : Hands) (n : Presets) → AreTracked n (first_states rate h)
first_tracked rate h n = record {
  whole = grind (arith, whole_halves rate true, whole_halves rate false);
  few = grind (arith, few_halves rate n true, few_halves rate n false);
}

pub leads_forgotten : (deck : Option Deck) (Goes : State → State → Type 0) (count : Presets → Presets) (v : States) → hands_of v ≡ hands.Allowed → AreWhole (states_rate v) v
    → ((s t : State) → IsState (states_rate v) t → Goes s t) → ((s t : State) → Possible v s → Goes s t → IsState (states_rate v) t)
    → ((n : Presets) → count n ≡ n) → AllLeadOn (touched deck (states_rate v)) Goes count v (if states_remain v then first_states (states_rate v) hands.Allowed else v)
leads_forgotten deck Goes count v allowed whole there back counts = by (states_remain v) refl
  where
    by : (b : Bool) → states_remain v ≡ b → AllLeadOn (touched deck (states_rate v)) Goes count v (if b then first_states (states_rate v) hands.Allowed else v)
    by true live = both_lead deck Goes count v (all_or_none (states_rate v) true) (all_or_none (states_rate v) true)
        (whole_halves (states_rate v) true) (whole_halves (states_rate v) true)
        (λ n few. (few_halves (states_rate v) (count n) true, few_halves (states_rate v) (count n) true)) (
          λ t i. let s = live_some (states_rate v) v whole live in (s.0, s.1, there s.0 t ((first_exactly (touched deck (states_rate v)) t).0 i).0),
          λ s t i goes. (first_exactly (touched deck (states_rate v)) t).1 (back s t i goes, tt),
        )
    by false dead = record {
      reached = (λ t i. absurd (false≢true (sym dead ∙ some_live v t i)), λ s t i goes. absurd (false≢true (sym dead ∙ some_live v s i)));
      profile = ap (deck_of deck (states_rate v)) allowed;
      whole = whole;
      few = λ n few. subst (λ m. AreFew m v) (sym (counts n)) few;
    }

-- ---- commands whose reply is not known

-- a state after a passed switch is one of those that stayed, or one of those that the switch leads to
passed_exactly : (acted : Acted) (on : Bool) (v : States) (t : State) → (Possible (panel_passed acted on v) t → Possible (all_drifted acted v) t ⊎ Possible (after_panel acted on v) t)
    × ((IsState (states_rate v) t × Possible (all_drifted acted v) t) ⊎ Possible (after_panel acted on v) t → Possible (panel_passed acted on v) t)
passed_exactly acted on v t = grind (arith, either_to acted v t t.panel, all_exactly (states_rate v) false t)

-- the panel may be switched
pub passed_panel : (acted : Acted) (on : Bool) (v : States) → AreWhole (states_rate v) v → AreBelow v
    → Follows (touched acted.deck (states_rate v)) acted.on (deed.Apply (effect.Panel on) true) v (panel_passed acted on v)
passed_panel acted on v whole below = by on (
  λ t i. elim ((passed_exactly acted on v t).0 i) [
    | inl stays ↦ let a = drifts.0 t stays in (a.0, a.1, (t, a.2, inr (refl, refl)))
    | inr goes ↦ let a = (panel_reached acted on v whole below).0 t goes in (a.0, a.1, (a.2.0, a.2.1, inl a.2.2))
  ],
  λ s t i (d, drift, acts). elim acts [
    | inl does ↦ (passed_exactly acted on v t).1 (inr ((panel_reached acted on v whole below).1 s t i (d, drift, does)))
    | inr (stays, e) ↦ rw e ((passed_exactly acted on v d).1 (inl (drift_state (touched acted.deck rate) acted.on s d (possible_state rate v s whole below i) drift, drifts.1 s d i drift)))
  ],
)
  where
    rate : Rate
    rate = states_rate v

    drifts : AreReached (Possible v) (Drift (touched acted.deck rate) acted.on) (Possible (all_drifted acted v))
    drifts = drift_reaches acted v whole below

    by : (on : Bool) → AreReached (Possible v) (DriftsAndGoes (Acts (deed.Apply (effect.Panel on) true)) (touched acted.deck rate) acted.on) (Possible (panel_passed acted on v))
        → Follows (touched acted.deck rate) acted.on (deed.Apply (effect.Panel on) true) v (panel_passed acted on v)
    by true = both_lead acted.deck _ _ v (halves_moved acted v.off) (either_panel acted v) (moved_whole acted rate v.off whole.off) (either_whole acted v whole)
        (λ n few. (moved_few acted n v.off (few false), either_few acted v n few))
    by false = both_lead acted.deck _ _ v (either_panel acted v) (all_or_none rate (remains_with_panel_on v)) (either_whole acted v whole) (whole_halves rate (remains_with_panel_on v))
        (λ n few. (either_few acted v n few, few_halves rate n (remains_with_panel_on v)))

pub follows_forget : (acted : Acted) (may_stay : Bool) (v : States) → hands_of v ≡ hands.Allowed → AreWhole (states_rate v) v → AreBelow v
    → Follows (touched acted.deck (states_rate v)) acted.on (deed.Apply (effect.Forget Everything) may_stay) v (if states_remain v then first_states (states_rate v) hands.Allowed else v)
follows_forget acted m v allowed whole below = leads_forgotten acted.deck (DriftsAndGoes (Acts (deed.Apply (effect.Forget Everything) m)) (touched acted.deck (states_rate v)) acted.on) (λ n. n) v allowed whole
    (λ s t valid. (s, ([], refl), inl (valid, tt)))
    (λ s t i (d, drift, acts). elim acts [
      | inl does ↦ does.0
      | inr (stays, e) ↦ subst (IsState (states_rate v)) (sym e) (drift_state (touched acted.deck (states_rate v)) acted.on s d (possible_state (states_rate v) v s whole below i) drift)
    ])
    (λ n. refl)
