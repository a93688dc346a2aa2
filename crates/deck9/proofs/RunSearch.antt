-- The search for a run: a few states before a step stand for all that there may be.
use Rattle.deck9.proofs.Words.{[], ap, arith, before_shift, Begins, Bool, Clear, Command, Does, done, Drift, DriftsAndSteps, Effect, effect_of, Entry, entry_of, Exchange}
use Rattle.deck9.proofs.Words.{false, Hands, HasRun, ignored, inl, inr, IsEntry, IsFirst, IsRun, IsRunFrom, IsState, length, List, MayBeOn, moved_entry, nat_tests, Next}
use Rattle.deck9.proofs.Words.{next_frame, Prev, prev_frame, refl, refused, Register, Sense, sense_of, State, Steps, StepsFromSome, Stop, subst, suc, sym, true, with_entry, ◌↔◌}
use Rattle.deck9.proofs.Words.{◌∙◌, ◌∷◌, ◌≡◌, ◌⊎◌}
use Rattle.deck9.proofs.Words.{Deck, Option, Profile, Rate}
use Rattle.deck9.proofs.Words.{before_forgetting, between, is_nak, Forgets, Forgotten, forgotten_with, Goes, may_ignore, Nothing, Shows, with_forgotten}
use Rattle.deck9.proofs.Words.{goes_on, Going, KeepsRest, on_at_first}
use Rattle.deck9.proofs.DriftLemmas.{drift_from_pairs, kept_valid, pairs_from_drift}
use Rattle.deck9.proofs.ShowsLemmas.{shows_nothing}
use Rattle.deck9.proofs.EffectLemmas.{does_between, forgets_between, put_panel}

-- ---- runs of no exchange

-- a stopped deck with nothing set
abbrev stopped : State
stopped = record { goal = Stop; shown = Stop; ins = Clear; outs = Clear; ains = Clear; aouts = Clear; local = false; panel = false }

is_state : (rate : Rate) → IsState rate stopped
is_state rate r = grind arith

-- no exchange has a run
pub run_start : (profile : Profile) → HasRun profile []
run_start profile = record { first = stopped; is_first = (is_state profile.rate, off profile.hands); after = []; is_run = tt }
  where
    off : (h : Hands) → MayBeOn h false
    off Hands.None = refl
    off Hands.Allowed = tt

-- ---- a step from some state

pub read_panel : (r : Register) (t : State) (on : Bool) → entry_of r (record t { panel = on }) ≡ entry_of r t
read_panel r t on = grind arith

-- a state in which a register was put is one in which it can be put again
put_again : (r : Register) (e : Entry) (on : Bool) (d t : State) → d.panel ≡ on → t ≡ with_entry r e d → t ≡ with_entry r e (record t { panel = on })
put_again r e on d t p put = grind arith

shifted_again : (rate : Rate) (x : Entry) → IsEntry rate x
    → (moved_entry (next_frame rate) (moved_entry (prev_frame rate) (moved_entry (next_frame rate) x)) ≡ moved_entry (next_frame rate) x)
    × (moved_entry (prev_frame rate) (moved_entry (next_frame rate) (moved_entry (prev_frame rate) x)) ≡ moved_entry (prev_frame rate) x)
shifted_again rate x h = (grind (arith, nat_tests), grind (arith, nat_tests))

-- a shift that led to a state leads to it from the state shifted back
shift_again : (back move : Entry → Entry) (r : Register) (e : Entry) (on : Bool) (d t : State) → d.panel ≡ on
    → move (back (move (entry_of r d))) ≡ move (entry_of r d) → e ≡ move (entry_of r d) → t ≡ with_entry r e d
    → (x : Entry) × (x ≡ move (entry_of r (with_entry r (back (entry_of r (record t { panel = on }))) (record t { panel = on }))))
    × (t ≡ with_entry r x (with_entry r (back (entry_of r (record t { panel = on }))) (record t { panel = on })))
shift_again back move r e on d t p undone moves put = (e, grind arith, grind arith)

does_from : (profile : Profile) (f : Effect) (on : Bool) (d t : State) → IsState profile.rate d → d.panel ≡ on → Does profile f d t
    → Does profile f (record t { panel = on }) t ⊎ Does profile f (before_shift profile.rate f (record t { panel = on })) t
does_from profile (Effect.Change r Next) on d t valid p (e, b, put) = inr (shift_again (moved_entry (prev_frame profile.rate)) (moved_entry (next_frame profile.rate)) r e on d t p
    (shifted_again profile.rate (entry_of r d) (valid r)).0 b put)
does_from profile (Effect.Change r Prev) on d t valid p (e, b, put) = inr (shift_again (moved_entry (next_frame profile.rate)) (moved_entry (prev_frame profile.rate)) r e on d t p
    (shifted_again profile.rate (entry_of r d) (valid r)).1 b put)
does_from profile (Effect.Change r c) on d t valid p (e, b, put) = inl (e, b, put_again r e on d t p put)
does_from profile f on d t valid p does = inl (grind arith)

-- a command that asks for something of the state has no effect, and nothing is forgotten beside it
pub sensed : (deck : Option Deck) (e : Exchange) → ((effect_of deck e.command ≡ Effect.Nothing) × (forgotten_with deck e ≡ Nothing)) ⊎ (sense_of e.command ≡ Sense.Nothing)
sensed deck e = grind arith

pub ignored_asks_nothing : (c : Command) → may_ignore c ≡ true → sense_of c ≡ Sense.Nothing
ignored_asks_nothing c may = grind arith

-- the state that stands for those before what is forgotten, and the one before a shift to it
abbrev pub before_all : Forgotten → Bool → State → State
before_all g on t = record (before_forgetting g t) { panel = on }

module _ (profile : Profile) (g : Forgotten) (on : Bool) (u t : State) (forgets : Forgets profile g u t) where
  alike_before : record u { panel = on } ≡ with_forgotten g (record u { panel = on }) (before_all g on t)
  alike_before = grind arith

  alike_back : (f : Effect) → before_shift profile.rate f (record u { panel = on })
      ≡ with_forgotten g (before_shift profile.rate f (record u { panel = on })) (before_shift profile.rate f (before_all g on t))
  alike_back f = let alike = alike_before in grind arith

  forgets_again : u.panel ≡ on → Forgets profile g (before_all g on t) t
  forgets_again p = grind arith

  local_before : u.local ≡ true → (before_all g on t).local ≡ true
  local_before local = grind arith

  same_before : u.panel ≡ on → g ≡ Nothing → u ≡ before_all g on t
  same_before p none = grind arith

shift_panel : (rate : Rate) (f : Effect) (s : State) → (before_shift rate f s).panel ≡ s.panel
shift_panel rate f s = grind (arith, put_panel)

pub silent : (profile : Profile) (e : Exchange) (v : State) → sense_of e.command ≡ Sense.Nothing → Shows profile.rate v e.command e.reply
silent profile e v asks = shows_nothing profile.rate v e.command e.reply asks

-- a step from one of the states that stand for all
abbrev FromTwo : Profile → Exchange → Bool → State → Type 0
FromTwo profile e on t = let same = before_all (forgotten_with profile.deck e) on t in
    Steps profile e same t ⊎ Steps profile e (before_shift profile.rate (effect_of profile.deck e.command) same) t

done_from : (profile : Profile) (e : Exchange) (on : Bool) (d u t : State) → IsState profile.rate d → d.panel ≡ on → is_nak e.reply ≡ false → sense_of e.command ≡ Sense.Nothing
    → Does profile (effect_of profile.deck e.command) d u → Forgets profile (forgotten_with profile.deck e) u t → FromTwo profile e on t
done_from profile e on d u t valid p nak asks does forgets =
    let f = effect_of profile.deck e.command in
    let g = forgotten_with profile.deck e in
    let same = before_all g on t in
    let back = before_shift profile.rate f same in
    let near = record u { panel = on } in
    elim (does_from profile f on d u valid p does) [
      | inl does ↦ inl (
        between profile f g same t,
        done nak (silent profile e same asks)
            (does_between profile f g near same u t (alike_before profile g on u t forgets) refl does forgets),
        forgets_between profile f g near same u t refl does forgets,
      )
      | inr does ↦ inr (
        between profile f g back t,
        done nak (silent profile e back asks)
            (does_between profile f g (before_shift profile.rate f near) back u t (alike_back profile g on u t forgets f) (back_panel f near same refl) does forgets),
        forgets_between profile f g (before_shift profile.rate f near) back u t (back_panel f near same refl) does forgets,
      )
    ]
  where
    back_panel : (f : Effect) (near same : State) → near.panel ≡ same.panel → (before_shift profile.rate f near).panel ≡ (before_shift profile.rate f same).panel
    back_panel f near same p = shift_panel profile.rate f near ∙ p ∙ sym (shift_panel profile.rate f same)

steps_from : (profile : Profile) (e : Exchange) (on : Bool) (d t : State) → IsState profile.rate d → d.panel ≡ on → Steps profile e d t → FromTwo profile e on t
steps_from profile e on d t valid p (u, refused nak same, forgets) =
    let from = subst (λ v. Forgets profile (forgotten_with profile.deck e) v t) same forgets in
    inl (before_all (forgotten_with profile.deck e) on t, refused nak refl, forgets_again profile (forgotten_with profile.deck e) on d t from p)
steps_from profile e on d t valid p (u, ignored nak shown may local same, forgets) =
    let g = forgotten_with profile.deck e in
    let from = subst (λ v. Forgets profile g v t) same forgets in
    inl (before_all g on t, ignored nak (silent profile e (before_all g on t) (ignored_asks_nothing e.command may)) may (local_before profile g on d t from local) refl, forgets_again profile g on d t from p)
steps_from profile e on d t valid p (u, done nak shown does, forgets) =
    elim (sensed profile.deck e) [
      | inl (none, kept) ↦
          let g = forgotten_with profile.deck e in
          let same = subst (λ f. Does profile f d u) none does in
          let from = subst (λ v. Forgets profile g v t) same forgets in
          inl (subst (λ v. Steps profile e v t) (same_before profile g on d t from p kept) (u, done nak shown does, forgets))
      | inr asks ↦ done_from profile e on d u t valid p nak asks does forgets
    ]

pub two_states : (profile : Profile) (e : Exchange) (on : Bool) (t : State) (f : Effect) (same back : State) → f ≡ effect_of profile.deck e.command → same ≡ before_all (forgotten_with profile.deck e) on t
    → back ≡ before_shift profile.rate f same → IsState profile.rate same → IsState profile.rate back
    → (Steps profile e same t ⊎ Steps profile e back t) ↔ StepsFromSome profile e on t
two_states profile e on t f same back is_effect is_same is_back valid valid_back =
    let shifted : back ≡ before_shift profile.rate (effect_of profile.deck e.command) (before_all (forgotten_with profile.deck e) on t) =
    is_back ∙ ap (λ (g : Effect). before_shift profile.rate g same) is_effect ∙ ap (before_shift profile.rate (effect_of profile.deck e.command)) is_same in (
      λ w. elim w [
        | inl step ↦ (same, valid, ap (λ (v : State). v.panel) is_same, step)
        | inr step ↦ (back, valid_back, ap (λ (v : State). v.panel) shifted ∙ shift_panel profile.rate (effect_of profile.deck e.command) (before_all (forgotten_with profile.deck e) on t), step)
      ],
      λ w. elim (steps_from profile e on w.0 t w.1 w.2 w.3) [
        | inl step ↦ inl (subst (λ v. Steps profile e v t) (sym is_same) step)
        | inr step ↦ inr (subst (λ v. Steps profile e v t) (sym shifted) step)
      ],
    )

-- ---- complete exchanges

-- no drift leads out of the first states
pub first_drifts : (profile : Profile) (on : Going) (s d : State) → IsFirst profile s → Drift profile on s d → IsFirst profile d
first_drifts profile on s d first drift = elim (pairs_from_drift profile on s d drift) [
  | inl w ↦ (kept_valid profile.rate on s d w.0 first.0, subst (MayBeOn profile.hands) (sym w.0.panel) first.1)
  | inr w ↦ (w.3, subst (λ h. MayBeOn h d.panel) (sym w.0) tt)
]

-- an exchange is a drift, and then the step with what is forgotten besides
pub steps_of : (profile : Profile) (on : Going) (e : Exchange) (s t : State) → Goes profile on e s t → (d : State) × Drift profile on s d × Steps profile e d t
steps_of profile on e s t (u, (d, drift, step), forgets) = (d, drift, (u, step, forgets))

begins_at : (profile : Profile) (e : Exchange) (t : State) → Begins profile e t ↔ ((d : State) × IsFirst profile d × Steps profile e d t)
begins_at profile e t = let on = on_at_first profile.deck in (
  λ w. let at = steps_of profile on e w.0 t w.2 in (at.0, first_drifts profile on w.0 at.0 w.1 at.1, at.2),
  λ w. (w.0, w.1, (w.2.0, (w.0, ([], refl), w.2.1), w.2.2)),
)

pub begins_alone : (profile : Profile) (e : Exchange) (t : State) → profile.hands ≡ Hands.None → StepsFromSome profile e false t ↔ Begins profile e t
begins_alone profile e t none =
    let begins = begins_at profile e t in (
      λ w. begins.1 (w.0, (w.1, subst (λ h. MayBeOn h w.0.panel) (sym none) w.2), w.3),
      λ w. let d = begins.0 w in (d.0, d.1.0, subst (λ h. MayBeOn h d.0.panel) none d.1.1, d.2),
    )

pub begins_touched : (profile : Profile) (e : Exchange) (t : State) → profile.hands ≡ Hands.Allowed → (StepsFromSome profile e false t ⊎ StepsFromSome profile e true t) ↔ Begins profile e t
begins_touched profile e t allowed = (
  λ w. elim w [ inl d ↦ begins.1 (d.0, (d.1, may d.0.panel), d.3) | inr d ↦ begins.1 (d.0, (d.1, may d.0.panel), d.3) ],
  λ w. let d = begins.0 w in
      from d.0 d.0.panel refl d.1.0 d.2,
)
  where
    begins : Begins profile e t ↔ ((d : State) × IsFirst profile d × Steps profile e d t)
    begins = begins_at profile e t

    may : (panel : Bool) → MayBeOn profile.hands panel
    may panel = subst (λ h. MayBeOn h panel) (sym allowed) tt

    from : (d : State) (b : Bool) → d.panel ≡ b → IsState profile.rate d → Steps profile e d t
        → StepsFromSome profile e false t ⊎ StepsFromSome profile e true t
    from d false p valid step = inl (d, valid, p, step)
    from d true p valid step = inr (d, valid, p, step)

pub goes_by : (profile : Profile) (on : Going) (e : Exchange) (s t : State)
    → (DriftsAndSteps profile on e s t ⊎ ((profile.hands ≡ Hands.Allowed) × (s.panel ≡ true) × StepsFromSome profile e true t)) ↔ Goes profile on e s t
goes_by profile on e s t = (
  λ w. elim w [
    | inl (d, keeps, pair, (u, step, forgets)) ↦ (u, (d, drift_from_pairs profile on s d (inl (keeps, pair)), step), forgets)
    | inr (allowed, switched, (d, valid, still, (u, step, forgets))) ↦ (u, (d, drift_from_pairs profile on s d (inr (allowed, switched, still, valid)), step), forgets)
  ],
  λ w. let at = steps_of profile on e s t w in elim (pairs_from_drift profile on s at.0 at.1) [
    | inl p ↦ inl (at.0, p.0, p.1, at.2)
    | inr p ↦ inr (p.0, p.1, (at.0, p.3, p.2, at.2))
  ],
)

-- ---- runs

pub run_none : (profile : Profile) (es : List Exchange) (ts : List State) → length es ≡ 0 → length ts ≡ 0 → IsRun profile es ts
run_none profile [] [] p q = let r = run_start profile in (r.first, r.is_first, tt)
run_none profile es ts p q = cc

-- all the exchanges lead on from the first state exactly where those that are left do so from the state before them
pub record RunsOn (profile : Profile) (begun : Going) (first : State) (es : List Exchange) (ts : List State) (on : Going) (before : State) (es' : List Exchange) (ts' : List State) : Type 0 where
  pub runs : IsRunFrom profile begun first es ts ↔ IsRunFrom profile on before es' ts'
  pub lengths : length es' ≡ length ts'

pub lengths_differ : (profile : Profile) (on : Going) (s : State) (es : List Exchange) (ts : List State) → IsRunFrom profile on s es ts → length es ≡ length ts
lengths_differ profile on s [] [] r = refl
lengths_differ profile on s (e ∷ es) (t ∷ ts) r = ap suc (lengths_differ profile (goes_on profile true e on) t es ts r.1)
lengths_differ profile on s es ts r = absurd r
