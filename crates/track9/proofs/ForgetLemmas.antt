-- What is forgotten of a set of states.
use Rattle.track9.proofs.Words.{AllLeadOn, AreForgotten, AreReached, AreTracked, AreWhole, Bool, Deck, Everything, Exchange, Exchanges, Forgets}
use Rattle.track9.proofs.Words.{Forgotten, Goes, Halves, HalvesWhole, Hands, InHalves, IsState, LeadsOn, Nothing, Option, Passes, Presets, Profile}
use Rattle.track9.proofs.Words.{Rate, Some, State, States, ap, false, first_states, forgotten_beside, forgotten_with, halves_forgotten, halves_of}
use Rattle.track9.proofs.Words.{hands_of, head_of, if◌then◌else◌, profile_of, states_rate, halves_rate, refl, states_remain, subst, sym, true, untouched, ◌↔◌}
use Rattle.track9.proofs.Words.{◌≡◌, ◌≢◌}
use Rattle.deck9.specs.Contradict.{MayGo}
use Rattle.deck9.specs.declared.going.Going.{Going}
use Rattle.deck9.specs.declared.state.Hands.TheVariants as hands
use Rattle.track9.proofs.EffectLemmas.{halves_forget}
use Rattle.deck9.proofs.EffectLemmas.{forgets_none}
use Rattle.track9.proofs.KnownLemmas.{whole_at_rate}
use Rattle.track9.proofs.PanelLemmas.{deck_of, leads_forgotten, leads_off, panel_off, touched}
use Rattle.track9.proofs.PartLemmas.{both_few, by_panel, whole_rate}
use Rattle.std.proofs.Common.{arith}

-- ---- with both

keeps_panel : (deck : Option Deck) (rate : Rate) (g : Forgotten) (s t : State) → Forgets (untouched deck rate) g s t → t.panel ≡ s.panel
keeps_panel deck rate g s t forgets = grind arith

pub forget_off : (g : Forgotten) (h : Halves) → HalvesWhole (halves_rate h) h → AreForgotten g (panel_off h) (panel_off (halves_forgotten g h))
forget_off g h whole deck = leads_off deck (halves_rate h) (λ p. Forgets p g) (λ n. n) (keeps_panel deck (halves_rate h) g) h (halves_forgotten g h) (halves_forget deck (halves_rate h) g h whole)

-- but for everything it is the same with hands and without
narrow : (deck : Option Deck) (rate : Rate) (g : Forgotten) (h k : Hands) (s t : State) → g ≢ Everything → Forgets (deck_of deck rate h) g s t → Forgets (deck_of deck rate k) g s t
narrow deck rate g h k s t but forgets = grind arith

by_hand : (g : Forgotten) (v w : States) (deck : Option Deck) → hands_of v ≡ hands.Allowed → AllLeadOn (touched deck (states_rate v)) (Forgets (touched deck (states_rate v)) g) (λ n. n) v w
    → AllLeadOn (profile_of deck v) (Forgets (profile_of deck v) g) (λ n. n) v w
by_hand g v w deck allowed = subst (λ h. AllLeadOn (deck_of deck (states_rate v) h) (Forgets (deck_of deck (states_rate v) h) g) (λ n. n) v w) (sym allowed)

abbrev pub both_forgotten : Forgotten → States → States
both_forgotten g v = record { off = halves_forgotten g v.off; on = Some (halves_forgotten g (halves_of v true)) }

pub forget_both : (g : Forgotten) (v : States) → g ≢ Everything → hands_of v ≡ hands.Allowed → AreWhole (states_rate v) v → AreForgotten g v (both_forgotten g v)
forget_both g v but allowed whole deck = by_hand g v (both_forgotten g v) deck allowed (record {
  reached = by_panel (Forgets (touched deck rate) g) keeps v (both_forgotten g v) (led false off) (led true on);
  profile = ap (touched deck) (whole_rate rate (halves_forgotten g v.off) off.whole);
  whole = record { off = off.whole; on = on.whole };
  few = λ n few. both_few n (both_forgotten g v) (off.few n (few false)) (on.few n (few true));
})
  where
    rate : Rate
    rate = states_rate v

    off : LeadsOn rate (Forgets (untouched deck rate) g) (λ n. n) v.off (halves_forgotten g v.off)
    off = halves_forget deck rate g v.off whole.off

    on : LeadsOn rate (Forgets (untouched deck rate) g) (λ n. n) (halves_of v true) (halves_forgotten g (halves_of v true))
    on = halves_forget deck rate g (halves_of v true) whole.on

    keeps : (s t : State) → Forgets (touched deck rate) g s t → t.panel ≡ s.panel
    keeps s t forgets = keeps_panel deck rate g s t (narrow deck rate g hands.Allowed hands.None s t but forgets)

    led : {h k : Halves} (pn : Bool) → LeadsOn rate (Forgets (untouched deck rate) g) (λ n. n) h k → AreReached (InHalves pn h) (Forgets (touched deck rate) g) (InHalves pn k)
    led pn leads = (
      λ t i. let a = (leads.reached pn).0 t i in (a.0, a.1, narrow deck rate g hands.None hands.Allowed a.0 t but a.2),
      λ s t i forgets. (leads.reached pn).1 s t i (narrow deck rate g hands.Allowed hands.None s t but forgets),
    )

pub forget_panel : (v : States) → hands_of v ≡ hands.Allowed → AreWhole (states_rate v) v
    → AreForgotten Everything v (if states_remain v then first_states (states_rate v) hands.Allowed else v)
forget_panel v allowed whole deck = by_hand Everything v _ deck allowed
    (leads_forgotten deck (Forgets (touched deck (states_rate v)) Everything) (λ n. n) v allowed whole (λ s t valid. (valid, tt)) (λ s t i forgets. forgets.0) (λ n. refl))

-- ---- a tracker

pub tracked_forgotten : (p : Profile) (g : Forgotten) (n : Presets) (v w : States) → AreTracked n v → AllLeadOn p (Forgets p g) (λ n. n) v w → AreTracked n w
tracked_forgotten p g n v w kept led = record { whole = whole_at_rate p w led.profile led.whole; few = led.few n kept.few }

-- a state remains exactly where one did
pub remains_forgotten : (p : Profile) (g : Forgotten) (X Y : State → Type 0) → ((s : State) → X s → IsState p.rate s) → AreReached X (Forgets p g) Y
    → ((s : State) × X s) ↔ ((s : State) × Y s)
remains_forgotten p g X Y valid reached =
    (λ w. (w.0, reached.1 w.0 w.0 w.1 (forgets_none p g w.0 (valid w.0 w.1))), λ w. let a = reached.0 w.0 w.1 in (a.0, a.1))

-- an exchange, and then what is forgotten besides
pub goes_reached : (p : Profile) (on : Going) (e : Exchange) (X Y Z : State → Type 0) → AreReached X (Exchanges p on e.command e.reply) Y → AreReached Y (Forgets p (forgotten_with p.deck e)) Z
    → AreReached X (Goes p on e) Z
goes_reached p on e X Y Z first second = (
  λ t z. let b = second.0 t z in let a = first.0 b.0 b.1 in (a.0, a.1, (b.0, a.2, b.2)),
  λ s t x (u, exchanges, forgets). second.1 u t (first.1 s u x exchanges) forgets,
)

pub goes_alone : (p : Profile) (on : Going) (e : Exchange) (X Y : State → Type 0) → forgotten_with p.deck e ≡ Nothing → AreReached X (Exchanges p on e.command e.reply) Y → AreReached X (Goes p on e) Y
goes_alone p on e X Y none first = goes_reached p on e X Y Y first (rw none (λ t y. (t, y, refl), λ s t y same. subst Y (sym same) y))

pub passes_reached : (p : Profile) (on : Going) (e : Exchange) (X Y Z : State → Type 0) → AreReached X (Passes p on e.command) Y → AreReached Y (Forgets p (forgotten_beside p.deck e.command (head_of e.block))) Z
    → AreReached X (MayGo p on false e) Z
passes_reached p on e X Y Z first second = (
  λ t z. let b = second.0 t z in let a = first.0 b.0 b.1 in (a.0, a.1, (a.2.0, b.0, a.2.1, a.2.2, b.2)),
  λ s t x (d, u, drift, can, forgets). second.1 u t (first.1 s u x (d, drift, can)) forgets,
)

pub passes_alone : (p : Profile) (on : Going) (e : Exchange) (X Y : State → Type 0) → forgotten_beside p.deck e.command (head_of e.block) ≡ Nothing → AreReached X (Passes p on e.command) Y
    → AreReached X (MayGo p on false e) Y
passes_alone p on e X Y none first = passes_reached p on e X Y Y first (rw none (λ t y. (t, y, refl), λ s t y same. subst Y (sym same) y))
