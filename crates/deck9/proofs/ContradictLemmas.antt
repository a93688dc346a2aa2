-- Runs that believe some replies.
use Rattle.deck9.proofs.Words.{[], ap, AreAnswered, arith, behind_first, Block, Bool, CanPass, Command, Does, done, Effect, effect_of, Exchange}
use Rattle.deck9.proofs.Words.{false, fits, HasBelieving, HasRun, inl, inr, is_reply_time_valid, IsBelievingFrom, IsFirst, IsRightReply, IsRunFrom, length, List, MayDo}
use Rattle.deck9.proofs.Words.{MayReply, refl, refused, Sense, sense_of, State, DeckStep, subst, sym, true, ℕ, ◌++◌, ◌+◌, ◌<◌, ◌↔◌, ◌∙◌, ◌∷◌, ◌≡◌, ◌⊎◌}
use Rattle.deck9.proofs.Words.{Deck, Option, Profile, Rate}
use Rattle.deck9.proofs.Words.{goes_on, Going, nothing_on, on_at_first}
use Rattle.deck9.specs.Laws.{IsPartOf}
use Rattle.deck9.proofs.GoingLemmas.{drift_more, fewer_believed, goes_on_is_part, goes_on_more, nothing_is_part, part_join, part_self, unbelieved_keeps}
use Rattle.deck9.proofs.RunSearch.{first_drifts}
use Rattle.deck9.proofs.Words.{false≢true, Forgets, ForgetsNothingBeside, forgotten_beside, forgotten_if, forgotten_with, Goes, head_of, is_nak, MayGo, Nothing, if◌then◌else◌}
use Rattle.deck9.proofs.EffectLemmas.{forgets_none}
use Rattle.deck9.proofs.RestLemmas.{first_does, first_goes, first_steps}
use Rattle.deck9.proofs.ReplyLemmas.{block, no_bytes, one_byte}
use Rattle.deck9.proofs.ShowsLemmas.{shows_nothing}

-- ---- one command

step_passes : (profile : Profile) (c : Command) (reply : Block) (s t : State) → DeckStep profile c reply s t → CanPass profile c s t
step_passes profile c reply s t step = grind arith

abbrev SomeStep : Profile → Command → State → State → Type 0
SomeStep profile c s t = (reply : Block) × IsRightReply profile.rate c reply × DeckStep profile c reply s t

by_nak : (profile : Profile) (c : Command) (s t : State) → t ≡ s → SomeStep profile c s t
unfolding fits is_reply_time_valid
by_nak profile c s t same = (
  block 1 0x12 (0 ∷ []),
  record {
    block = record { group = omega arith; data_bytes = omega arith };
    code_byte = omega arith;
    data_bytes = one_byte 0 [] (omega arith) no_bytes;
    kind = grind arith;
    valid_time = grind arith;
  },
  refused refl same,
)

-- a command has no effect, or may be acknowledged, which shows nothing
acked : (rate : Rate) (deck : Option Deck) (c : Command) → (effect_of deck c ≡ Effect.Nothing) ⊎ ((fits c (block 1 0x01 []) ≡ true)
    × (is_reply_time_valid rate c (block 1 0x01 []) ≡ true) × (sense_of c ≡ Sense.Nothing))
unfolding fits is_reply_time_valid
acked rate deck c = grind arith

pub pass_steps : (profile : Profile) (c : Command) (s t : State) → CanPass profile c s t → SomeStep profile c s t
pass_steps profile c s t (inl same) = by_nak profile c s t same
pass_steps profile c s t (inr does) = elim (acked profile.rate profile.deck c) [
  | inl none ↦ by_nak profile c s t (subst (λ f. Does profile f s t) none does)
  | inr (kind, valid_time, silent) ↦ (
    block 1 0x01 [],
    record {
      block = record { group = omega arith; data_bytes = omega arith };
      code_byte = omega arith;
      data_bytes = no_bytes;
      kind = kind;
      valid_time = valid_time;
    },
    done refl (shows_nothing profile.rate s c (block 1 0x01 []) silent) does,
  )
]

pub some_reply : (profile : Profile) (c : Command) (s t : State) → CanPass profile c s t ↔ SomeStep profile c s t
some_reply profile c s t = (pass_steps profile c s t, λ w. step_passes profile c w.0 s t w.2)

-- ---- the first states

-- no passed command leads out of the first states
first_passes : (profile : Profile) (e : Exchange) (s t : State) → IsFirst profile s → CanPass profile e.command s t → IsFirst profile t
first_passes profile e s t first passed = let does = first_does profile (effect_of profile.deck e.command) s t first in grind arith

does_fewer : (profile : Profile) (more fewer : Bool) (e : Exchange) (s t : State) → (fewer ≡ true → more ≡ true) → MayDo profile more e s t → MayDo profile fewer e s t
does_fewer profile more fewer e s t le does = grind (arith, step_passes)

first_does_so : (profile : Profile) (b : Bool) (e : Exchange) (s t : State) → IsFirst profile s → MayDo profile b e s t → IsFirst profile t
first_does_so profile b e s t first does = first_passes profile e s t first (does_fewer profile b false e s t (λ never. absurd (false≢true never)) does)

pub first_may : (profile : Profile) (on : Going) (b : Bool) (e : Exchange) (s t : State) → IsFirst profile s → MayGo profile on b e s t → IsFirst profile t
first_may profile on b e s t first (d, u, drift, does, forgets) =
    first_does profile (Effect.Forget (forgotten_if b profile.deck e)) u t (first_does_so profile b e d u (first_drifts profile on s d first drift) does) forgets

-- ---- what is forgotten besides

unless_refused : (p : Profile) (e : Exchange) (refused : Bool) (s t : State) → IsFirst p s
    → Forgets p (if refused then Nothing else forgotten_beside p.deck e.command (head_of e.block)) s t → Forgets p (forgotten_beside p.deck e.command (head_of e.block)) s t
unless_refused p e true s t first same = subst (Forgets p (forgotten_beside p.deck e.command (head_of e.block)) s) (sym same) (forgets_none p _ s first.0)
unless_refused p e false s t first forgets = forgets

forgets_fewer : (p : Profile) (more fewer : Bool) (e : Exchange) (s t : State) → (fewer ≡ true → more ≡ true) → IsFirst p s
    → Forgets p (forgotten_if more p.deck e) s t → Forgets p (forgotten_if fewer p.deck e) s t
forgets_fewer p true true e s t le first forgets = forgets
forgets_fewer p true false e s t le first forgets = unless_refused p e (is_nak e.reply) s t first forgets
forgets_fewer p false true e s t le first forgets = absurd (false≢true (le refl))
forgets_fewer p false false e s t le first forgets = forgets

go_fewer : (p : Profile) (g h : Going) (more fewer : Bool) (e : Exchange) (s t : State) → (fewer ≡ true → more ≡ true) → IsPartOf g h → IsFirst p s → MayGo p g more e s t
    → MayGo p h fewer e s t
go_fewer p g h more fewer e s t le part first (d, u, drift, does, forgets) = (
  d,
  u,
  drift_more p g h s d part drift,
  does_fewer p more fewer e d u le does,
  forgets_fewer p more fewer e u t le (first_does_so p more e d u (first_drifts p g s d first drift) does) forgets,
)

-- ---- whatever else was answered

answered : (profile : Profile) (b : Bool) (e : Exchange) (s t : State) → MayDo profile b e s t → (reply : Block) × MayReply profile.rate b e reply × DeckStep profile e.command reply s t
answered profile b e s t does = grind (arith, pass_steps)

nothing_with : (deck : Option Deck) (e : Exchange) → ForgetsNothingBeside deck → forgotten_with deck e ≡ Nothing
nothing_with deck e none = let kept = none e.command (head_of e.block) in grind arith

nothing_if : (deck : Option Deck) (b : Bool) (e : Exchange) → ForgetsNothingBeside deck → forgotten_if b deck e ≡ Nothing
nothing_if deck true e none = nothing_with deck e none
nothing_if deck false e none = none e.command (head_of e.block)

-- where nothing ever goes on
all_answered : (profile : Profile) (g h : Going) (b : ℕ → Bool) (es : List Exchange) (s : State) (ts : List State) → ForgetsNothingBeside profile.deck
    → on_at_first profile.deck ≡ nothing_on → IsPartOf g nothing_on → IsBelievingFrom profile g b s es ts
    → (fs : List Exchange) × AreAnswered profile.rate b es fs × IsRunFrom profile h s fs ts
all_answered profile g h b [] s [] none still part run = ([], tt, tt)
all_answered profile g h b (e ∷ es) s (t ∷ ts) none still part ((d, u, drift, does, forgets), run) =
    let one = answered profile (b 0) e d u does in
    let f = record e { reply = one.0 } in
    let kept = subst (λ x. Forgets profile x u t) (nothing_if profile.deck (b 0) e none ∙ sym (nothing_with profile.deck f none)) forgets in
    let after = subst (IsPartOf (goes_on profile (b 0) e g)) still (goes_on_is_part profile (b 0) e g (subst (IsPartOf g) (sym still) part)) in
    let rest = all_answered profile (goes_on profile (b 0) e g) (goes_on profile true f h) (behind_first b) es t ts none still after run in
    let moved = drift_more profile g h s d (part_join g nothing_on h part (nothing_is_part h)) drift in
    (f ∷ rest.0, (one.0, one.1, refl, rest.1), ((u, (d, moved, one.2), kept), rest.2))
all_answered profile g h b es s ts none still part run = absurd run

-- what an exchange with another reply does, one may do whose reply is not believed
believed : (profile : Profile) (g h : Going) (b : Bool) (e : Exchange) (reply : Block) (s t : State) → IsPartOf g h → IsFirst profile s → MayReply profile.rate b e reply
    → Goes profile g (record e { reply = reply }) s t → MayGo profile h b e s t
believed profile g h true e reply s t part first same (u, (d, drift, step), forgets) =
    subst (λ r. MayGo profile h true (record e { reply = r }) s t) same (d, u, drift_more profile g h s d part drift, step, forgets)
believed profile g h false e reply s t part first right (u, (d, drift, step), forgets) = (
  d,
  u,
  drift_more profile g h s d part drift,
  step_passes profile e.command reply d u step,
  unless_refused profile e (is_nak reply) u t (first_steps profile (record e { reply = reply }) d u (first_drifts profile g s d first drift) step) forgets,
)

-- where the reply is another one, no more goes on than where it is not believed
on_believed : (profile : Profile) (g h : Going) (b : Bool) (e : Exchange) (reply : Block) → IsPartOf g h → MayReply profile.rate b e reply
    → IsPartOf (goes_on profile true (record e { reply = reply }) g) (goes_on profile b e h)
on_believed profile g h true e reply part same =
    subst (λ r. IsPartOf (goes_on profile true (record e { reply = r }) g) (goes_on profile true e h)) (sym same) (goes_on_more profile true e g h part)
on_believed profile g h false e reply part right = fewer_believed profile true false (record e { reply = reply }) g h (λ never. refl) part

all_believed : (profile : Profile) (g h : Going) (b : ℕ → Bool) (es fs : List Exchange) (s : State) (ts : List State) → IsPartOf g h → IsFirst profile s
    → AreAnswered profile.rate b es fs → IsRunFrom profile g s fs ts → IsBelievingFrom profile h b s es ts
all_believed profile g h b [] [] s [] part first same run = tt
all_believed profile g h b (e ∷ es) (f ∷ fs) s (t ∷ ts) part first (reply, may, made, same) run =
    let goes = subst (λ x. Goes profile g x s t) made run.0 in
    let after = subst (λ x. IsPartOf (goes_on profile true x g) (goes_on profile (b 0) e h)) (sym made) (on_believed profile g h (b 0) e reply part may) in (
      believed profile g h (b 0) e reply s t part first may goes,
      all_believed profile (goes_on profile true f g) (goes_on profile (b 0) e h) (behind_first b) es fs t ts after (first_goes profile g f s t first run.0) same run.1,
    )
all_believed profile g h b es fs s ts part first same run = grind arith

pub given_answers : (profile : Profile) (b : ℕ → Bool) (es fs : List Exchange) → AreAnswered profile.rate b es fs → HasRun profile fs → HasBelieving profile b es
given_answers profile b es fs same w = let on = on_at_first profile.deck in record {
  first = w.first;
  is_first = w.is_first;
  after = w.after;
  is_run = all_believed profile on on b es fs w.first w.after (part_self on) w.is_first same w.is_run;
}

pub some_answers : (profile : Profile) (b : ℕ → Bool) (es : List Exchange) → ForgetsNothingBeside profile.deck → on_at_first profile.deck ≡ nothing_on
    → HasBelieving profile b es → (fs : List Exchange) × AreAnswered profile.rate b es fs × HasRun profile fs
some_answers profile b es none still w =
    let on = on_at_first profile.deck in
    let a = all_answered profile on on b es w.first w.after none still (subst (λ x. IsPartOf on x) still (part_self on)) w.is_run in
    (a.0, a.1, record { first = w.first; is_first = w.is_first; after = w.after; is_run = a.2 })

-- ---- believing more and fewer

all_runs : (profile : Profile) (on : Going) (es : List Exchange) (s : State) (ts : List State) → IsBelievingFrom profile on (λ k. true) s es ts ↔ IsRunFrom profile on s es ts
all_runs profile on [] s [] = (λ r. tt, λ r. tt)
all_runs profile on (e ∷ es) s (t ∷ ts) = let more = all_runs profile (goes_on profile true e on) es t ts in (
  λ r. ((r.0.1, (r.0.0, r.0.2, r.0.3), r.0.4), more.0 r.1),
  λ r. ((r.0.1.0, r.0.0, r.0.1.1, r.0.1.2, r.0.2), more.1 r.1),
)
all_runs profile on es s ts = (λ r. absurd r, λ r. absurd r)

pub believing_all : (profile : Profile) (es : List Exchange) → HasBelieving profile (λ k. true) es ↔ HasRun profile es
believing_all profile es = let on = on_at_first profile.deck in (
  λ w. record { first = w.first; is_first = w.is_first; after = w.after; is_run = (all_runs profile on es w.first w.after).0 w.is_run },
  λ w. record { first = w.first; is_first = w.is_first; after = w.after; is_run = (all_runs profile on es w.first w.after).1 w.is_run },
)

runs_fewer : (profile : Profile) (g h : Going) (more fewer : ℕ → Bool) (es : List Exchange) (s : State) (ts : List State) → ((k : ℕ) → fewer k ≡ true → more k ≡ true)
    → IsPartOf g h → IsFirst profile s → IsBelievingFrom profile g more s es ts → IsBelievingFrom profile h fewer s es ts
runs_fewer profile g h more fewer [] s [] le part first run = tt
runs_fewer profile g h more fewer (e ∷ es) s (t ∷ ts) le part first (goes, run) = (
  go_fewer profile g h (more 0) (fewer 0) e s t (le 0) part first goes,
  runs_fewer profile (goes_on profile (more 0) e g) (goes_on profile (fewer 0) e h) (behind_first more) (behind_first fewer) es t ts (λ k. le (k + 1))
      (fewer_believed profile (more 0) (fewer 0) e g h (le 0) part) (first_may profile g (more 0) e s t first goes) run,
)
runs_fewer profile g h more fewer es s ts le part first run = absurd run

pub believing_fewer : (profile : Profile) (more fewer : ℕ → Bool) (es : List Exchange) → ((k : ℕ) → fewer k ≡ true → more k ≡ true) → HasBelieving profile more es
    → HasBelieving profile fewer es
believing_fewer profile more fewer es le w = let on = on_at_first profile.deck in record {
  first = w.first;
  is_first = w.is_first;
  after = w.after;
  is_run = runs_fewer profile on on more fewer es w.first w.after le (part_self on) w.is_first w.is_run;
}

-- ---- what comes before

rest_of : (profile : Profile) (on : Going) (b : ℕ → Bool) (es fs : List Exchange) (s : State) (ts : List State) → IsPartOf on (on_at_first profile.deck) → IsFirst profile s
    → IsBelievingFrom profile on b s (es ++ fs) ts → HasBelieving profile (λ k. b (length es + k)) fs
rest_of profile on b [] fs s ts part first run = record {
  first = s;
  is_first = first;
  after = ts;
  is_run = runs_fewer profile on (on_at_first profile.deck) _ _ fs s ts (λ k is. ap b (omega arith) ∙ is) part first run;
}
rest_of profile on b (e ∷ es) fs s [] part first run = absurd run
rest_of profile on b (e ∷ es) fs s (t ∷ ts) part first (goes, run) =
    let rest = rest_of profile (goes_on profile (b 0) e on) (behind_first b) es fs t ts (goes_on_is_part profile (b 0) e on part) (first_may profile on (b 0) e s t first goes) run in
    believing_fewer profile _ _ fs (λ k is. ap b (omega arith) ∙ is) rest

-- a state stays where the reply is not believed
pub stays : (profile : Profile) (on : Going) (e : Exchange) (s : State) → IsFirst profile s → MayGo profile on false e s s
stays profile on e s first = (s, s, ([], refl), inl refl, forgets_none profile (forgotten_beside profile.deck e.command (head_of e.block)) s first.0)

whole_of : (profile : Profile) (g h : Going) (b : ℕ → Bool) (es fs : List Exchange) (s : State) (ts : List State) → ((k : ℕ) → k < length es → b k ≡ false)
    → IsPartOf g h → IsFirst profile s → IsBelievingFrom profile g (λ k. b (length es + k)) s fs ts → (us : List State) × IsBelievingFrom profile h b s (es ++ fs) us
whole_of profile g h b [] fs s ts none part first run = (ts, runs_fewer profile g h _ _ fs s ts (λ k is. ap b (omega arith) ∙ is) part first run)
whole_of profile g h b (e ∷ es) fs s ts none part first run =
    let after = part_join g h (goes_on profile false e h) part (unbelieved_keeps profile e h) in
    let rest = whole_of profile g (goes_on profile false e h) (behind_first b) es fs s ts (λ k below. none (k + 1) (omega arith)) after first
    (runs_fewer profile g g _ _ fs s ts (λ k is. ap b (omega arith) ∙ is) (part_self g) first run) in (
      s ∷ rest.0,
      subst (λ x. MayGo profile h x e s s × IsBelievingFrom profile (goes_on profile x e h) (behind_first b) s (es ++ fs) rest.0) (sym (none 0 (omega arith)))
          (stays profile h e s first, rest.1),
    )

pub before_the_first : (profile : Profile) (b : ℕ → Bool) (es fs : List Exchange) → ((k : ℕ) → k < length es → b k ≡ false)
    → HasBelieving profile b (es ++ fs) ↔ HasBelieving profile (λ k. b (length es + k)) fs
before_the_first profile b es fs none = let on = on_at_first profile.deck in (
  λ w. rest_of profile on b es fs w.first w.after (part_self on) w.is_first w.is_run,
  λ w.
      let a = whole_of profile on on b es fs w.first w.after none (part_self on) w.is_first w.is_run in
      record { first = w.first; is_first = w.is_first; after = a.0; is_run = a.1 },
)
