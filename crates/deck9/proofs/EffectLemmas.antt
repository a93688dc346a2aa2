-- What effects, and what is forgotten after them, lead to.
use Rattle.tc25.proofs.DayLemmas.{some_day}
use Rattle.deck9.proofs.Words.{arith, Becomes, between, Change, cleared, DeckStep, Does, done, Effect, effect_of, Entry, entry_of, Everything}
use Rattle.deck9.proofs.Words.{Exchange, ignored, inl, inr, refused, Steps, ◌⊎◌}
use Rattle.deck9.proofs.Words.{Forgets, Forgotten, forgotten_with, IsEntry, IsState, KeepsPanel, Motion, nat_tests, Nothing, Profile, Rate, refl, Register}
use Rattle.deck9.proofs.Words.{SetAt, SetSomewhere, some_change, some_outcome, State, subst, sym, with_entry, with_forgotten, ◌≡◌}

-- ---- effects lead from states to states

becomes_valid : (rate : Rate) (c : Change) (old new : Entry) → IsEntry rate old → Becomes rate c old new → IsEntry rate new
becomes_valid rate c old new valid becomes = grind (arith, nat_tests)

pub put_valid : (rate : Rate) (r q : Register) (e : Entry) (s : State) → IsEntry rate e → IsState rate s → IsEntry rate (entry_of q (with_entry r e s))
put_valid rate r q e s is_entry valid = let other = valid q in grind arith

pub does_valid : (profile : Profile) (f : Effect) (s t : State) → IsState profile.rate s → Does profile f s t → IsState profile.rate t
does_valid profile (Effect.Change r c) s t valid (e, becomes, put) =
    subst (IsState profile.rate) (sym put)
    (λ q. put_valid profile.rate r q e s (becomes_valid profile.rate c (entry_of r s) e (valid r) becomes) valid)
does_valid profile f s t valid does = λ r. let before = valid r in grind arith

pub put_panel : (r : Register) (e : Entry) (s : State) → (with_entry r e s).panel ≡ s.panel
put_panel r e s = grind arith

-- ---- what is forgotten

-- a state may stay as it is where something is forgotten
pub forgets_none : (p : Profile) (g : Forgotten) (s : State) → IsState p.rate s → Forgets p g s s
forgets_none p g s valid = grind arith

pub alike_self : (g : Forgotten) (s : State) → s ≡ with_forgotten g s s
alike_self g s = grind arith

mixed_valid : (rate : Rate) (g : Forgotten) (d t : State) → IsState rate t → IsState rate (with_forgotten g (cleared d) t)
mixed_valid rate g d t valid = λ r. let before = valid r in grind arith

-- ---- an effect, and then what is forgotten: it does as much to a state that differs in what is forgotten alone

some_becomes : (rate : Rate) (c : Change) (x y e : Entry) → Becomes rate c x e → Becomes rate c y (some_change rate c y)
some_becomes rate SetSomewhere x y e becomes = (0, some_day rate, refl)
some_becomes rate (SetAt t) x y e becomes = (becomes.0, refl)
some_becomes rate c x y e becomes = grind arith

outcome_panel : (p : Profile) (f : Effect) (c d u : State) → c.panel ≡ d.panel → Does p f c u → KeepsPanel p.hands (some_outcome p f d) u
outcome_panel p f c d u panel does = grind (arith, put_panel)

pub forgets_between : (p : Profile) (f : Effect) (g : Forgotten) (c d u t : State) → c.panel ≡ d.panel → Does p f c u → Forgets p g u t → Forgets p g (between p f g d t) t
forgets_between p f Everything c d u t panel does forgets = let kept = outcome_panel p f c d u panel does in grind arith
forgets_between p f g c d u t panel does forgets = grind arith

changes_between : (p : Profile) (r : Register) (x : Change) (g : Forgotten) (c d u t : State) → c ≡ with_forgotten g c d → Does p (Effect.Change r x) c u → Forgets p g u t
    → Does p (Effect.Change r x) d (between p (Effect.Change r x) g d t)
changes_between p r x Nothing c d u t alike (e, becomes, put) forgets = (e, grind arith, grind arith)
changes_between p r x Motion c d u t alike (e, becomes, put) forgets = (e, grind arith, grind arith)
changes_between p r x g c d u t alike (e, becomes, put) forgets =
    (some_change p.rate x (entry_of r d), some_becomes p.rate x (entry_of r c) (entry_of r d) e becomes, grind arith)

pub does_between : (p : Profile) (f : Effect) (g : Forgotten) (c d u t : State) → c ≡ with_forgotten g c d → c.panel ≡ d.panel → Does p f c u → Forgets p g u t
    → Does p f d (between p f g d t)
does_between p (Effect.Change r x) g c d u t alike panel does forgets = changes_between p r x g c d u t alike does forgets
does_between p (Effect.Forget h) g c d u t alike panel does forgets =
    let mixed = λ (valid : IsState p.rate u). mixed_valid p.rate g d t (does_valid p (Effect.Forget g) u t valid forgets) in grind arith
does_between p f g c d u t alike panel does forgets = grind arith

-- from the state before a step to the one after what is forgotten besides, by way of a third
abbrev pub StepsBy : Profile → Exchange → State → State → State → Type 0
StepsBy p e d u t = DeckStep p e.command e.reply d u × Forgets p (forgotten_with p.deck e) u t

pub step_between : (p : Profile) (e : Exchange) (d t : State) → Steps p e d t
    → StepsBy p e d (between p (effect_of p.deck e.command) (forgotten_with p.deck e) d t) t ⊎ StepsBy p e d d t
step_between p e d t (u, refused nak same, forgets) = inr (refused nak refl, subst (λ v. Forgets p (forgotten_with p.deck e) v t) same forgets)
step_between p e d t (u, ignored other shown may local same, forgets) = inr (ignored other shown may local refl, subst (λ v. Forgets p (forgotten_with p.deck e) v t) same forgets)
step_between p e d t (u, done other shown does, forgets) =
    let f = effect_of p.deck e.command in
    let g = forgotten_with p.deck e in
    inl (done other shown (does_between p f g d d u t (alike_self g d) refl does forgets), forgets_between p f g d d u t refl does forgets)
