-- What was lost of the registers before a step stands clear behind it, or the step does not ask for it.
use Rattle.deck9.proofs.Words.{ap, arith, At, Becomes, Bool, Change, Clear, Command, Does, done, DriftsAndSteps, Effect, effect_of, Entry, entry_of, Everything, Exchange, false, Forgets, Forgotten}
use Rattle.deck9.proofs.Words.{forgotten_with, Going, ignored, inl, inr, is_nak, KeepsRest, lost_entry, may_lose, Mode, Motion, MovesAndSteps, Nothing, PairReaches, Profile, refl, refused}
use Rattle.deck9.proofs.Words.{Hands, RegAudioIn, RegAudioOut, RegIn, RegOut, Register, Registers, State, StaysOrLost, Steps, subst, switched, sym, Tape, true, with_entry, with_forgotten, with_losses}
use Rattle.deck9.proofs.Words.{◌∙◌, ◌≡◌, ◌⊎◌, between}
use Rattle.deck9.proofs.EffectLemmas.{does_between, forgets_between}
use Rattle.deck9.proofs.RunSearch.{ignored_asks_nothing, sensed, silent}

-- the state right before a step, by what stands behind it
abbrev before_step : Going → State → State → State → State
before_step on t s d = record (with_losses on t s) { goal = d.goal; shown = d.shown }

same_entry : (on : Going) (r : Register) (e f : Entry) → StaysOrLost on r e f → lost_entry on r f e ≡ f
same_entry on r e f stays = grind arith

pub lost_stays : (on : Going) (r : Register) (e f : Entry) → StaysOrLost on r e (lost_entry on r f e)
lost_stays on r e f = grind arith

-- the registers of two states are alike
record SameRegisters (d t : State) : Type 0 where
  ins : t.ins ≡ d.ins
  outs : t.outs ≡ d.outs
  ains : t.ains ≡ d.ains
  aouts : t.aouts ≡ d.aouts

same_state : (on : Going) (s d t : State) → KeepsRest on s d → SameRegisters d t → before_step on t s d ≡ d
same_state on s d t k same =
    let ins = same_entry on RegIn s.ins d.ins (k.registers RegIn) in
    let outs = same_entry on RegOut s.outs d.outs (k.registers RegOut) in
    let ains = same_entry on RegAudioIn s.ains d.ains (k.registers RegAudioIn) in
    let aouts = same_entry on RegAudioOut s.aouts d.aouts (k.registers RegAudioOut) in
    rw (same.ins, same.outs, same.ains, same.aouts, ins, outs, ains, aouts, sym k.local, sym k.panel) refl

-- nothing of the registers is forgotten, or all of it
forgets_or_not : (p : Profile) (g : Forgotten) (u t : State) → Forgets p g u t → SameRegisters u t ⊎ ((d c : State) → c.goal ≡ d.goal → c.shown ≡ d.shown → c.local ≡ d.local
    → c.panel ≡ d.panel → (Forgets p g d t → Forgets p g c t) × (d ≡ with_forgotten g d c))
forgets_or_not p Nothing u t forgot = inl (rw forgot (record { ins = refl; outs = refl; ains = refl; aouts = refl }))
forgets_or_not p Motion u t forgot = inl (rw forgot (record { ins = refl; outs = refl; ains = refl; aouts = refl }))
forgets_or_not p g u t forgot = inr (λ d c goal shown local panel. (λ f. grind arith, grind arith))

-- the same registers, by way of a state between
alike_by : (u v d t : State) → u ≡ v → SameRegisters d v → SameRegisters u t → SameRegisters d t
alike_by u v d t is before same = record {
  ins = same.ins ∙ ap (λ (x : State). x.ins) is ∙ before.ins;
  outs = same.outs ∙ ap (λ (x : State). x.outs) is ∙ before.outs;
  ains = same.ains ∙ ap (λ (x : State). x.ains) is ∙ before.ains;
  aouts = same.aouts ∙ ap (λ (x : State). x.aouts) is ∙ before.aouts;
}

-- a change leads from the state with what was lost to the same state
module _ (p : Profile) (on : Going) (s d u t : State) (k : KeepsRest on s d) (same : SameRegisters u t) where
  kept_entry : (q : Register) → entry_of q t ≡ entry_of q d → lost_entry on q (entry_of q t) (entry_of q s) ≡ entry_of q d
  kept_entry q is = rw is (same_entry on q (entry_of q s) (entry_of q d) (k.registers q))

  put_left : (r : Register) (e : Entry) → u ≡ with_entry r e d → u ≡ with_entry r e (before_step on t s d)
  put_left RegIn e put =
      let outs = kept_entry RegOut (same.outs ∙ ap (λ (x : State). x.outs) put) in
      let ains = kept_entry RegAudioIn (same.ains ∙ ap (λ (x : State). x.ains) put) in
      let aouts = kept_entry RegAudioOut (same.aouts ∙ ap (λ (x : State). x.aouts) put) in
      put ∙ rw (outs, ains, aouts, sym k.local, sym k.panel) refl
  put_left RegOut e put =
      let ins = kept_entry RegIn (same.ins ∙ ap (λ (x : State). x.ins) put) in
      let ains = kept_entry RegAudioIn (same.ains ∙ ap (λ (x : State). x.ains) put) in
      let aouts = kept_entry RegAudioOut (same.aouts ∙ ap (λ (x : State). x.aouts) put) in
      put ∙ rw (ins, ains, aouts, sym k.local, sym k.panel) refl
  put_left RegAudioIn e put =
      let ins = kept_entry RegIn (same.ins ∙ ap (λ (x : State). x.ins) put) in
      let outs = kept_entry RegOut (same.outs ∙ ap (λ (x : State). x.outs) put) in
      let aouts = kept_entry RegAudioOut (same.aouts ∙ ap (λ (x : State). x.aouts) put) in
      put ∙ rw (ins, outs, aouts, sym k.local, sym k.panel) refl
  put_left RegAudioOut e put =
      let ins = kept_entry RegIn (same.ins ∙ ap (λ (x : State). x.ins) put) in
      let outs = kept_entry RegOut (same.outs ∙ ap (λ (x : State). x.outs) put) in
      let ains = kept_entry RegAudioIn (same.ains ∙ ap (λ (x : State). x.ains) put) in
      put ∙ rw (ins, outs, ains, sym k.local, sym k.panel) refl

  stands_at : (r : Register) (e : Entry) → u ≡ with_entry r e d → entry_of r t ≡ e
  stands_at RegIn e put = same.ins ∙ ap (λ (x : State). x.ins) put
  stands_at RegOut e put = same.outs ∙ ap (λ (x : State). x.outs) put
  stands_at RegAudioIn e put = same.ains ∙ ap (λ (x : State). x.ains) put
  stands_at RegAudioOut e put = same.aouts ∙ ap (λ (x : State). x.aouts) put

  left_entry : (r : Register) → entry_of r (before_step on t s d) ≡ lost_entry on r (entry_of r t) (entry_of r s)
  left_entry RegIn = refl
  left_entry RegOut = refl
  left_entry RegAudioIn = refl
  left_entry RegAudioOut = refl

  -- what a change makes of an entry it makes of the entry with what was lost
  becomes_left : (r : Register) (x : Change) (old was new : Entry) → StaysOrLost on r was old → Becomes p.rate x old new → Becomes p.rate x (lost_entry on r new was) new
  becomes_left r x old was new stays becomes = grind arith

  changes_left : (r : Register) (x : Change) → Does p (Effect.Change r x) d u → Does p (Effect.Change r x) (before_step on t s d) u
  changes_left r x (e, becomes, put) = (
    e,
    rw (left_entry r, stands_at r e put) (becomes_left r x (entry_of r d) (entry_of r s) e (k.registers r) becomes),
    put_left r e put,
  )

  same_left : (f : Effect) → SameRegisters d t → Does p f d u → Does p f (before_step on t s d) u
  same_left f alike does = subst (λ c. Does p f c u) (sym (same_state on s d t k alike)) does

  -- an effect leads from the state with what was lost to the same state, where the registers stand behind the step as it left them
  does_left : (f : Effect) → Does p f d u → Does p f (before_step on t s d) u
  does_left (Effect.Change r x) does = changes_left r x does
  does_left (Effect.Forget h) does = elim (forgets_or_not p h d u does) [
    | inl kept ↦ same_left (Effect.Forget h) (alike_by u u d t refl kept same) does
    | inr free ↦ (free d (before_step on t s d) refl refl (sym k.local) (sym k.panel)).0 does
  ]
  does_left Effect.Nothing does = same_left Effect.Nothing (alike_by u d d t does (record { ins = refl; outs = refl; ains = refl; aouts = refl }) same) does
  does_left (Effect.Go g) does = same_left (Effect.Go g) (alike_by u (record d { goal = g }) d t does (record { ins = refl; outs = refl; ains = refl; aouts = refl }) same) does
  does_left (Effect.KeepOr goals) does = same_left (Effect.KeepOr goals) (elim does [
    | inl stays ↦ alike_by u d d t stays (record { ins = refl; outs = refl; ains = refl; aouts = refl }) same
    | inr goes ↦ alike_by u (record d { goal = u.goal }) d t goes.1 (record { ins = refl; outs = refl; ains = refl; aouts = refl }) same
  ]) does
  does_left (Effect.Panel switch) does = same_left (Effect.Panel switch) (alike_by u (switched p.hands switch d) d t does (by_hands p.hands) same) does
    where
      by_hands : (hands : Hands) → SameRegisters d (switched hands switch d)
      by_hands Hands.None = record { ins = refl; outs = refl; ains = refl; aouts = refl }
      by_hands Hands.Allowed = record { ins = refl; outs = refl; ains = refl; aouts = refl }

-- the step leads on from the state with what was lost
pub steps_left : (p : Profile) (on : Going) (e : Exchange) (s d t : State) → KeepsRest on s d → Steps p e d t → Steps p e (before_step on t s d) t
steps_left p on e s d t k (u, refused nak same, forgot) = subst (λ c. Steps p e c t) (sym (same_state on s d t k alike)) (u, refused nak same, forgot)
  where
    alike : SameRegisters d t
    alike = rw (same_end, same) (record { ins = refl; outs = refl; ains = refl; aouts = refl })
      where
        same_end : t ≡ u
        same_end = grind arith
steps_left p on e s d t k (u, ignored nak shown may local same, forgot) =
    let g = forgotten_with p.deck e in
    let left = before_step on t s d in
    let from = subst (λ v. Forgets p g v t) same forgot in
    elim (forgets_or_not p g d t from) [
      | inl kept ↦ subst (λ c. Steps p e c t) (sym (same_state on s d t k kept)) (u, ignored nak shown may local same, forgot)
      | inr free ↦ (left, ignored nak (silent p e left (ignored_asks_nothing e.command may)) may (sym k.local ∙ local) refl, (free d left refl refl (sym k.local) (sym k.panel)).0 from)
    ]
steps_left p on e s d t k (u, done nak shown does, forgot) =
    let f = effect_of p.deck e.command in
    let g = forgotten_with p.deck e in
    let left = before_step on t s d in
    elim (sensed p.deck e) [
      | inl (none, kept) ↦
          let same = subst (λ x. Does p x d u) none does in
          let still = subst (λ x. Forgets p x u t) kept forgot in
          subst (λ c. Steps p e c t) (sym (same_state on s d t k (rw (still, same) (record { ins = refl; outs = refl; ains = refl; aouts = refl })))) (u, done nak shown does, forgot)
      | inr asks ↦ elim (forgets_or_not p g u t forgot) [
        | inl kept ↦ (u, done nak (silent p e left asks) (does_left p on s d u t k kept f does), forgot)
        | inr free ↦
            let alike = (free d left refl refl (sym k.local) (sym k.panel)).1 in (
              between p f g left t,
              done nak (silent p e left asks) (does_between p f g d left u t alike k.panel does forgot),
              forgets_between p f g d left u t k.panel does forgot,
            )
      ]
    ]

pub moves_of : (p : Profile) (on : Going) (e : Exchange) (s t : State) → DriftsAndSteps p on e s t → MovesAndSteps p on e (with_losses on t s) t
moves_of p on e s t (d, k, pair, steps) = (d.goal, d.shown, pair, steps_left p on e s d t k steps)

pub drift_of : (p : Profile) (on : Going) (e : Exchange) (s t : State) → MovesAndSteps p on e (with_losses on t s) t → DriftsAndSteps p on e s t
drift_of p on e s t (g, m, pair, steps) = (
  record (with_losses on t s) { goal = g; shown = m },
  record { registers = λ r. left r; local = refl; panel = refl },
  pair,
  steps,
)
  where
    left : (r : Register) → StaysOrLost on r (entry_of r s) (entry_of r (record (with_losses on t s) { goal = g; shown = m }))
    left RegIn = lost_stays on RegIn s.ins t.ins
    left RegOut = lost_stays on RegOut s.outs t.outs
    left RegAudioIn = lost_stays on RegAudioIn s.ains t.ains
    left RegAudioOut = lost_stays on RegAudioOut s.aouts t.aouts
