-- Registers that may be lost: a stage of a drift of its own, before that of the mechanics.
use Rattle.deck9.specs.declared.going.Lost.TheVariants.{NoRegister}
use Rattle.track9.proofs.Words.{all_or_none, Allows, ap, arith, At, Bool, Clear, Drift, drift_from_pairs, Entries, entries_of, Entry, entry_of, false, false≢true, Halves, halves_drifted, halves_lost}
use Rattle.track9.proofs.Words.{halves_moved, HalvesFew, HalvesWhole, in_local, inl, inr, KeepsRest, LeadsOn, lost_entries, lost_part, may_lose, PairReaches, pairs_from_drift}
use Rattle.track9.proofs.Words.{Presets, Rate, refl, RegAudioIn, RegAudioOut, RegIn, Register, RegOut, some_entry, State, StaysOrLost, subst, sym, TakenQuietly, Taken, true, untouched}
use Rattle.track9.proofs.Words.{has_pair, Acts, counts_after, Deed, ◌∙◌, ◌≡◌, ◌⊎◌, or_cases, or-true}
use Rattle.deck9.specs.declared.going.Going.{Going}
use Rattle.deck9.specs.declared.going.Lost.{Lost}
use Rattle.track9.specs.Working.Acting.{Acted, quiet}
use Rattle.track9.proofs.EffectLemmas.{drift_leads, leads, leads_as, leads_then}
use Rattle.track9.proofs.EntryLemmas.{some_allowed}
use Rattle.track9.proofs.PartLemmas.{drift_few, drifted_all, each_register, whole_in}
use Rattle.track9.proofs.Words.{halves_rate}
use Rattle.track9.proofs.Words.{DriftsAndGoes}

-- registers may be lost, and nothing else differs
pub record Loses (on : Going) (s t : State) : Type 0 where
  pub rest : KeepsRest on s t
  pub goal : t.goal ≡ s.goal
  pub shown : t.shown ≡ s.shown

-- a drift is what is lost, and then the mechanics
pub lost_first : (acted : Acted) (rate : Rate) (s t : State) → Drift (untouched acted.deck rate) acted.on s t
    → (u : State) × Loses acted.on s u × Drift (untouched acted.deck rate) (quiet acted.on) u t
lost_first acted rate s t d = elim (pairs_from_drift (untouched acted.deck rate) acted.on s t d) [
  | inl w ↦
      let u : State = record t { goal = s.goal; shown = s.shown } in (
        u,
        record { rest = record { registers = each_register _ (w.0.registers RegIn) (w.0.registers RegOut) (w.0.registers RegAudioIn) (w.0.registers RegAudioOut); local = w.0.local; panel = w.0.panel }; goal = refl; shown = refl },
        drift_from_pairs (untouched acted.deck rate) (quiet acted.on) u t
            (inl (record { registers = each_register _ (inl refl) (inl refl) (inl refl) (inl refl); local = refl; panel = refl }, w.1)),
      )
  | inr hand ↦ cc
]

then_moves : (acted : Acted) (rate : Rate) (s u t : State) → Loses acted.on s u → Drift (untouched acted.deck rate) (quiet acted.on) u t → Drift (untouched acted.deck rate) acted.on s t
then_moves acted rate s u t lost d = elim (pairs_from_drift (untouched acted.deck rate) (quiet acted.on) u t d) [
  | inl w ↦ drift_from_pairs (untouched acted.deck rate) acted.on s t (inl (
    record {
      registers = λ r. still r (w.0.registers r) (lost.rest.registers r);
      local = w.0.local ∙ lost.rest.local;
      panel = w.0.panel ∙ lost.rest.panel;
    },
    subst (λ m. PairReaches acted.deck acted.on s.goal m t.goal t.shown) lost.shown (subst (λ g. PairReaches acted.deck acted.on g u.shown t.goal t.shown) lost.goal w.1),
  ))
  | inr hand ↦ cc
]
  where
    still : (r : Register) → StaysOrLost (quiet acted.on) r (entry_of r u) (entry_of r t) → StaysOrLost acted.on r (entry_of r s) (entry_of r u)
        → StaysOrLost acted.on r (entry_of r s) (entry_of r t)
    still r (inl same) stays = subst (StaysOrLost acted.on r (entry_of r s)) (sym same) stays
    still r (inr (never, clear)) stays = absurd (false≢true never)

-- ---- the states of a part

-- an entry of those where one may have been lost is one of them, or Clear
lost_from : (lost : Bool) (es : Entries) (e f : Entry) → Allows es e → Allows (lost_entries lost es) f → (g : Entry) × Allows es g × ((f ≡ g) ⊎ ((lost ≡ true) × (f ≡ Clear)))
lost_from lost es e Clear some allowed = elim (or_cases es.may_clear lost allowed) [ inl clear ↦ (Clear, clear, inl refl) | inr may ↦ (e, some, inr (may, refl)) ]
lost_from lost es e (At t) some allowed = (At t, allowed, inl refl)

lost_to : (lost : Bool) (es : Entries) (e f : Entry) → Allows es e → ((f ≡ e) ⊎ ((lost ≡ true) × (f ≡ Clear))) → Allows (lost_entries lost es) f
lost_to lost es e f some stays = grind (arith, or-true)

lost_some : (lost : Bool) (es : Entries) → some_entry es ≡ true → some_entry (lost_entries lost es) ≡ true
lost_some lost es some = grind arith

pub lose_leads : (on : Going) (rate : Rate) (h : Halves) → HalvesWhole rate h → LeadsOn rate (Loses on) (λ n. n) h (halves_lost on.lost h)
lose_leads on rate h whole = leads rate (Loses on) (λ n. n) (record { local = λ s t d. d.rest.local; panel = λ s t d. d.rest.panel }) (λ l. lost_part on.lost) h whole
    (λ l n few. few) (λ l live. let p = in_local h l in let wide = whole_in rate h whole l in record {
      from = λ t i.
          let one = λ (r : Register). some_allowed (entries_of r p) ((wide r).0 ∙ live) in
          let a = lost_from (may_lose on.lost RegIn) p.ins (one RegIn).0 t.ins (one RegIn).1 (i.registers RegIn) in
          let b = lost_from (may_lose on.lost RegOut) p.outs (one RegOut).0 t.outs (one RegOut).1 (i.registers RegOut) in
          let c = lost_from (may_lose on.lost RegAudioIn) p.ains (one RegAudioIn).0 t.ains (one RegAudioIn).1 (i.registers RegAudioIn) in
          let d = lost_from (may_lose on.lost RegAudioOut) p.aouts (one RegAudioOut).0 t.aouts (one RegAudioOut).1 (i.registers RegAudioOut) in
          let s : State = record t { ins = a.0; outs = b.0; ains = c.0; aouts = d.0 } in (
            s,
            record { pair = i.pair; registers = each_register _ a.1 b.1 c.1 d.1 },
            refl,
            refl,
            record { rest = record { registers = each_register _ a.2 b.2 c.2 d.2; local = refl; panel = refl }; goal = refl; shown = refl },
          );
      to = λ s t i lost. record {
        pair = subst (λ m. has_pair p.pairs t.goal m ≡ true) (sym lost.shown) (subst (λ g. has_pair p.pairs g s.shown ≡ true) (sym lost.goal) i.pair);
        registers = each_register _ (lost_to _ p.ins s.ins t.ins (i.registers RegIn) (lost.rest.registers RegIn)) (lost_to _ p.outs s.outs t.outs (i.registers RegOut) (lost.rest.registers RegOut))
            (lost_to _ p.ains s.ains t.ains (i.registers RegAudioIn) (lost.rest.registers RegAudioIn)) (lost_to _ p.aouts s.aouts t.aouts (i.registers RegAudioOut) (lost.rest.registers RegAudioOut));
      };
      whole = λ b. each_register _ (lost_some _ p.ins ((wide RegIn).0 ∙ live) ∙ sym live, (wide RegIn).1) (lost_some _ p.outs ((wide RegOut).0 ∙ live) ∙ sym live, (wide RegOut).1)
          (lost_some _ p.ains ((wide RegAudioIn).0 ∙ live) ∙ sym live, (wide RegAudioIn).1) (lost_some _ p.aouts ((wide RegAudioOut).0 ∙ live) ∙ sym live, (wide RegAudioOut).1);
      few = λ b n few. each_register _ (few RegIn) (few RegOut) (few RegAudioIn) (few RegAudioOut);
    })

pub rate_lost : (lost : Lost) (h : Halves) → halves_rate (halves_lost lost h) ≡ halves_rate h
rate_lost lost h = grind arith

pub lost_whole : (on : Going) (h : Halves) → HalvesWhole (halves_rate h) h → HalvesWhole (halves_rate (halves_lost on.lost h)) (halves_lost on.lost h)
lost_whole on h whole = subst (λ rate. HalvesWhole rate (halves_lost on.lost h)) (sym (rate_lost on.lost h)) (lose_leads on (halves_rate h) h whole).whole

-- ---- a drift, with what may be lost

pub moved_leads : (acted : Acted) (rate : Rate) (h : Halves) → HalvesWhole rate h → LeadsOn rate (Drift (untouched acted.deck rate) acted.on) (λ n. n) h (halves_moved acted h)
moved_leads acted rate h whole =
    let first = lose_leads acted.on rate h whole in
    leads_as rate (λ s t. (u : State) × Loses acted.on s u × Drift (untouched acted.deck rate) (quiet acted.on) u t) (Drift (untouched acted.deck rate) acted.on) (λ n. n) (λ n. n)
    h (halves_moved acted h) (λ s t w. then_moves acted rate s w.0 t w.1 w.2) (λ s t i d. lost_first acted rate s t d) (λ n. refl)
    (leads_then rate (Loses acted.on) (Drift (untouched acted.deck rate) (quiet acted.on)) (λ n. n) (λ n. n) h (halves_lost acted.on.lost h) (halves_moved acted h) first
    (drift_leads acted rate (halves_lost acted.on.lost h) first.whole))

pub moved_whole : (acted : Acted) (rate : Rate) (h : Halves) → HalvesWhole rate h → HalvesWhole rate (halves_moved acted h)
moved_whole acted rate h whole = (moved_leads acted rate h whole).whole

pub moved_few : (acted : Acted) (n : Presets) (h : Halves) → HalvesFew n h → HalvesFew n (halves_moved acted h)
moved_few acted n h few = drift_few acted n (halves_lost acted.on.lost h) (λ l r. grind (arith, few l r))

pub moved_all : (acted : Acted) (rate : Rate) (b : Bool) → halves_moved acted (all_or_none rate b) ≡ all_or_none rate b
moved_all acted rate b = ap (halves_drifted acted) (nothing_lost b) ∙ drifted_all acted rate b
  where
    nothing_lost : (b : Bool) → halves_lost acted.on.lost (all_or_none rate b) ≡ all_or_none rate b
    nothing_lost true = refl
    nothing_lost false = refl

-- what a deed makes after the mechanics it makes after a drift, where registers were lost before
pub taken_lost : (acted : Acted) (rate : Rate) (d : Deed) (h g : Halves) → HalvesWhole rate h → TakenQuietly acted rate d (halves_lost acted.on.lost h) g → Taken acted rate d h g
taken_lost acted rate d h g whole taken =
    let p = untouched acted.deck rate in
    leads_as rate (λ s t. (u : State) × Loses acted.on s u × ((v : State) × Drift p (quiet acted.on) u v × Acts d p v t)) (λ s t. (v : State) × Drift p acted.on s v × Acts d p v t)
    (counts_after d) (counts_after d) h g
    (λ s t w. (w.2.0, then_moves acted rate s w.0 w.2.0 w.1 w.2.1, w.2.2))
    (λ s t i w. let a = lost_first acted rate s w.0 w.1 in (a.0, a.1, (w.0, a.2, w.2))) (λ n. refl)
    (leads_then rate (Loses acted.on) (λ u t. (v : State) × Drift p (quiet acted.on) u v × Acts d p v t) (λ n. n) (counts_after d) h (halves_lost acted.on.lost h) g (lose_leads acted.on rate h whole) taken)

-- what is taken of a set that was lost from, with what the set was in its place
pub taken_from_lost : (acted : Acted) (d : Deed) (h l g : Halves) (lost : Lost) → lost ≡ acted.on.lost → l ≡ halves_lost lost h → HalvesWhole (halves_rate h) h
    → TakenQuietly acted (halves_rate l) d l g → Taken acted (halves_rate h) d h g
taken_from_lost acted d h l g lost same is whole taken = taken_lost acted (halves_rate h) d h g whole (
    subst (λ rate. TakenQuietly acted rate d (halves_lost acted.on.lost h) g) (rate_lost acted.on.lost h)
    (subst (λ l. TakenQuietly acted (halves_rate l) d l g) (is ∙ ap (λ lost. halves_lost lost h) same) taken))

pub whole_from_lost : (on : Going) (h l : Halves) (lost : Lost) → lost ≡ on.lost → l ≡ halves_lost lost h → HalvesWhole (halves_rate h) h → HalvesWhole (halves_rate l) l
whole_from_lost on h l lost same is whole = subst (λ l. HalvesWhole (halves_rate l) l) (sym (is ∙ ap (λ lost. halves_lost lost h) same)) (lost_whole on h whole)

-- where no register may be lost, both are one
pub taken_as_quietly : (acted : Acted) (rate : Rate) (d : Deed) (h g : Halves) → acted.on.lost ≡ NoRegister → TakenQuietly acted rate d h g → Taken acted rate d h g
taken_as_quietly acted rate d h g none taken = subst (λ on. LeadsOn rate (DriftsAndGoes (Acts d) (untouched acted.deck rate) on) (counts_after d) h g) (quiet_same acted.on none) taken
  where
    quiet_same : (on : Going) → on.lost ≡ NoRegister → quiet on ≡ on
    quiet_same on none = grind arith
