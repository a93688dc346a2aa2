-- Runs with one exchange more.
use Rattle.deck9.proofs.Words.{goes_on, Going, on_at_first, on_through, Profile, true}
use Rattle.deck9.proofs.Words.{[], AreReached, arith, Ends, Exchange, Goes, HasRun, IsFirst, IsRunFrom, last_state, List, refl, State, ◌++◌, ◌↔◌, ◌∷◌, ◌≡◌}

-- a run with its last exchange taken away: the states before it, their run, and the step to the last state
split : (profile : Profile) (on : Going) (es : List Exchange) (e : Exchange) (s : State) (ts : List State) → IsRunFrom profile on s (es ++ e ∷ []) ts
    → (before : List State) × IsRunFrom profile on s es before × Goes profile (on_through profile on es) e (last_state s before) (last_state s ts)
split profile on [] e s (t ∷ []) r = ([], tt, r.0)
split profile on (f ∷ fs) e s (t ∷ ts) r = let w = split profile (goes_on profile true f on) fs e t ts r.1 in (t ∷ w.0, (r.0, w.1), w.2)
split profile on es e s ts r = grind arith

-- runs in a row
pub join_runs : (profile : Profile) (on : Going) (es fs : List Exchange) (s : State) (ts us : List State) → IsRunFrom profile on s es ts
    → IsRunFrom profile (on_through profile on es) (last_state s ts) fs us → IsRunFrom profile on s (es ++ fs) (ts ++ us)
join_runs profile on [] fs s [] us r more = more
join_runs profile on (e ∷ es) fs s (t ∷ ts) us r more = (r.0, join_runs profile (goes_on profile true e on) es fs t ts us r.1 more)
join_runs profile on es fs s ts us r more = absurd r

pub last_joined : (s : State) (ts us : List State) → last_state s (ts ++ us) ≡ last_state (last_state s ts) us
last_joined s [] us = refl
last_joined s (t ∷ ts) us = last_joined t ts us

pub ends_none : (profile : Profile) (s : State) → Ends profile [] s ↔ IsFirst profile s
ends_none profile s = (λ w. grind arith, λ first. record { first = s; is_first = first; after = []; is_run = tt; is_last = refl })

pub ends_more : (profile : Profile) (es : List Exchange) (e : Exchange)
    → AreReached (Ends profile es) (Goes profile (on_through profile (on_at_first profile.deck) es) e) (Ends profile (es ++ e ∷ []))
ends_more profile es e = let on = on_at_first profile.deck in (
  λ t w.
      let a = split profile on es e w.first w.after w.is_run in
      (last_state w.first a.0, record { first = w.first; is_first = w.is_first; after = a.0; is_run = a.1; is_last = refl }, rw w.is_last at a.2),
  λ s t w goes. record {
    first = w.first;
    is_first = w.is_first;
    after = w.after ++ t ∷ [];
    is_run = join_runs profile on es (e ∷ []) w.first w.after (t ∷ []) w.is_run (rw w.is_last goes, tt);
    is_last = last_joined w.first w.after (t ∷ []);
  },
)

pub some_end : (profile : Profile) (es : List Exchange) → ((s : State) × Ends profile es s) ↔ HasRun profile es
some_end profile es = (
  λ w. record { first = w.1.first; is_first = w.1.is_first; after = w.1.after; is_run = w.1.is_run },
  λ r. (last_state r.first r.after, record { first = r.first; is_first = r.is_first; after = r.after; is_run = r.is_run; is_last = refl }),
)
