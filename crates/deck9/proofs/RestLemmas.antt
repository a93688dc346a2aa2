-- What is left of a run without its first exchanges is a run.
use Rattle.deck9.proofs.Words.{[], arith, Does, Effect, effect_of, Entry, entry_of, Exchange, HasRun, IsEntry, IsFirst}
use Rattle.deck9.proofs.Words.{IsRunFrom, IsState, List, nat_tests, State, DeckStep, ◌++◌, ◌∷◌}
use Rattle.deck9.proofs.Words.{before_shift, Bool, MayBeOn, moved_entry, Next, next_frame, Prev, prev_frame, Profile, Rate}
use Rattle.deck9.proofs.Words.{Steps, Forgotten, forgotten_with, Goes}
use Rattle.deck9.proofs.EffectLemmas.{does_valid, put_panel, put_valid}
use Rattle.deck9.proofs.Words.{goes_on, Going, on_at_first}
use Rattle.deck9.proofs.Words.{true}
use Rattle.deck9.specs.Laws.{IsPartOf}
use Rattle.deck9.proofs.GoingLemmas.{drift_more, goes_on_is_part, goes_on_more}
use Rattle.deck9.proofs.RunSearch.{before_all, first_drifts}

-- ---- steps lead from states to states

pub step_valid : (profile : Profile) (e : Exchange) (s t : State) → IsState profile.rate s → DeckStep profile e.command e.reply s t → IsState profile.rate t
step_valid profile e s t valid step = let does = does_valid profile (effect_of profile.deck e.command) s t valid in grind arith

pub steps_valid : (profile : Profile) (e : Exchange) (s t : State) → IsState profile.rate s → Steps profile e s t → IsState profile.rate t
steps_valid profile e s t valid (u, step, forgets) = does_valid profile (Effect.Forget (forgotten_with profile.deck e)) u t (step_valid profile e s u valid step) forgets

-- the states that stand for all before a step
pub same_valid : (rate : Rate) (g : Forgotten) (t : State) (on : Bool) → IsState rate t → IsState rate (before_all g on t)
same_valid rate g t on valid = λ r. let before = valid r in grind arith

moved_valid : (rate : Rate) (x : Entry) → IsEntry rate x → IsEntry rate (moved_entry (next_frame rate) x) × IsEntry rate (moved_entry (prev_frame rate) x)
moved_valid rate x valid = (grind (arith, nat_tests), grind (arith, nat_tests))

pub back_valid : (rate : Rate) (f : Effect) (t : State) → IsState rate t → IsState rate (before_shift rate f t)
back_valid rate (Effect.Change r Next) t valid = λ q. put_valid rate r q _ t (moved_valid rate (entry_of r t) (valid r)).1 valid
back_valid rate (Effect.Change r Prev) t valid = λ q. put_valid rate r q _ t (moved_valid rate (entry_of r t) (valid r)).0 valid
back_valid rate f t valid = λ q. let before = valid q in grind arith

-- where hands are not allowed no effect switches the panel
does_panel : (profile : Profile) (f : Effect) (s t : State) → MayBeOn profile.hands s.panel → Does profile f s t → MayBeOn profile.hands t.panel
does_panel profile f s t may does = grind (arith, put_panel)

pub first_does : (profile : Profile) (f : Effect) (s t : State) → IsFirst profile s → Does profile f s t → IsFirst profile t
first_does profile f s t first does = (does_valid profile f s t first.0 does, does_panel profile f s t first.1 does)

-- no step leads out of the first states
pub first_steps : (profile : Profile) (e : Exchange) (s t : State) → IsFirst profile s → DeckStep profile e.command e.reply s t → IsFirst profile t
first_steps profile e s t first step = let does = first_does profile (effect_of profile.deck e.command) s t first in grind arith

-- nor does an exchange
pub first_goes : (profile : Profile) (on : Going) (e : Exchange) (s t : State) → IsFirst profile s → Goes profile on e s t → IsFirst profile t
first_goes profile on e s t first (u, (d, drift, step), forgets) =
    first_does profile (Effect.Forget (forgotten_with profile.deck e)) u t (first_steps profile e d u (first_drifts profile on s d first drift) step) forgets

-- ---- runs

-- a run where less goes on is one where more does
pub run_more : (profile : Profile) (less more : Going) (es : List Exchange) (s : State) (ts : List State) → IsPartOf less more → IsRunFrom profile less s es ts → IsRunFrom profile more s es ts
run_more profile less more [] s [] part run = tt
run_more profile less more (e ∷ es) s (t ∷ ts) part ((u, (d, drift, step), forgets), run) = (
  (u, (d, drift_more profile less more s d part drift, step), forgets),
  run_more profile (goes_on profile true e less) (goes_on profile true e more) es t ts (goes_on_more profile true e less more part) run,
)
run_more profile less more es s ts part run = absurd run

-- what may be going on after some exchanges is a part of what may be at first
pub rest_runs : (profile : Profile) (on : Going) (es fs : List Exchange) (s : State) (ts : List State) → IsPartOf on (on_at_first profile.deck) → IsFirst profile s
    → IsRunFrom profile on s (es ++ fs) ts → HasRun profile fs
rest_runs profile on [] fs s ts part first run =
    record { first = s; is_first = first; after = ts; is_run = run_more profile on (on_at_first profile.deck) fs s ts part run }
rest_runs profile on (e ∷ es) fs s [] part first run = absurd run
rest_runs profile on (e ∷ es) fs s (t ∷ ts) part first (goes, run) =
    rest_runs profile (goes_on profile true e on) es fs t ts (goes_on_is_part profile true e on part) (first_goes profile on e s t first goes) run
