-- Where exchanges lead, and a tracker that takes them in turn.
use Rattle.track9.proofs.Words.{[], ap, append-nil, append_assoc, arith, AreReached, Ends, ends_more, ends_none, Exchange, FollowsFrom, Goes, get_or, IsFirst}
use Rattle.track9.proofs.Words.{KeepsEnds, Leads, LeadsFrom, length, List, Possible, Profile, refl, State, sym, take, take_more, Tracked, ℕ}
use Rattle.track9.proofs.Words.{◌++◌, ◌+◌, ◌<◌, ◌↔◌, ◌∙◌, ◌∷◌, ◌≡◌}
use Rattle.track9.proofs.Words.{goes_on, left_on, left_through, on_at_first, subst, true}
use Rattle.deck9.specs.declared.going.Going.{Going}
use Rattle.deck9.specs.Run.{on_through}
use Rattle.track9.specs.declared.following.Lasting.{Lasting}
use Rattle.track9.specs.declared.following.Lasting.TheVariants.{UntilEnded, Throughout}

-- ---- what may be going on

through_joined : (profile : Profile) (on : Going) (es fs : List Exchange) → on_through profile on (es ++ fs) ≡ on_through profile (on_through profile on es) fs
through_joined profile on [] fs = refl
through_joined profile on (e ∷ es) fs = through_joined profile (goes_on profile true e on) es fs

left_joined : (lasting : Lasting) (profile : Profile) (on : Going) (es fs : List Exchange)
    → left_through lasting profile on (es ++ fs) ≡ left_through lasting profile (left_through lasting profile on es) fs
left_joined UntilEnded profile on es fs = through_joined profile on es fs
left_joined Throughout profile on es fs = refl

pub left_none : (lasting : Lasting) (profile : Profile) (on : Going) → left_through lasting profile on [] ≡ on
left_none UntilEnded profile on = refl
left_none Throughout profile on = refl

-- through one exchange, and then others
left_first : (lasting : Lasting) (profile : Profile) (on : Going) (e : Exchange) (es : List Exchange)
    → left_through lasting profile on (e ∷ es) ≡ left_through lasting profile (left_on lasting profile e on) es
left_first UntilEnded profile on e es = refl
left_first Throughout profile on e es = refl

-- through one exchange more
pub left_more : (lasting : Lasting) (profile : Profile) (on : Going) (es : List Exchange) (e : Exchange)
    → left_through lasting profile on (es ++ e ∷ []) ≡ left_on lasting profile e (left_through lasting profile on es)
left_more UntilEnded profile on es e = through_joined profile on es (e ∷ [])
left_more Throughout profile on es e = refl

-- ---- where exchanges lead

pub leads_on : (lasting : Lasting) (profile : Profile) (on : Going) (es : List Exchange) (X Y : State → Type 0) (t : State) → ((s : State) → X s → Y s)
    → Leads lasting profile on X es t → Leads lasting profile on Y es t
leads_on lasting profile on [] X Y t f l = f t l
leads_on lasting profile on (e ∷ es) X Y t f l = leads_on lasting profile (left_on lasting profile e on) es _ _ t (λ u w. (w.0, f w.0 w.1, w.2)) l

-- from where runs end, the exchanges that follow lead to where the runs of all end
ends_lead : (profile : Profile) (es fs : List Exchange) (t : State)
    → Ends profile (es ++ fs) t ↔ Leads UntilEnded profile (on_through profile (on_at_first profile.deck) es) (Ends profile es) fs t
ends_lead profile es [] t = rw (append-nil es) (λ l. l, λ l. l)
ends_lead profile es (f ∷ fs) t =
    let more = ends_more profile es f in
    let on = on_through profile (on_at_first profile.deck) es in
    let next = goes_on profile true f on in
    let rest = subst (λ on. Ends profile ((es ++ f ∷ []) ++ fs) t ↔ Leads UntilEnded profile on (Ends profile (es ++ f ∷ [])) fs t)
    (through_joined profile (on_at_first profile.deck) es (f ∷ [])) (ends_lead profile (es ++ f ∷ []) fs t) in rw (← append_assoc es (f ∷ []) fs) (
      λ l. leads_on UntilEnded profile next fs (Ends profile (es ++ f ∷ [])) (λ u. (s : State) × Ends profile es s × Goes profile on f s u) t more.0 (rest.0 l),
      λ l. rest.1 (leads_on UntilEnded profile next fs (λ u. (s : State) × Ends profile es s × Goes profile on f s u) (Ends profile (es ++ f ∷ [])) t (λ u w. more.1 w.0 u w.1 w.2) l),
    )

-- through some and then others
pub leads_joined : (lasting : Lasting) (profile : Profile) (on : Going) (X : State → Type 0) (es fs : List Exchange) (t : State)
    → Leads lasting profile on X (es ++ fs) t ↔ Leads lasting profile (left_through lasting profile on es) (Leads lasting profile on X es) fs t
leads_joined lasting profile on X [] fs t = rw (left_none lasting profile on) (λ l. l, λ l. l)
leads_joined lasting profile on X (e ∷ es) fs t =
    rw (left_first lasting profile on e es) (leads_joined lasting profile (left_on lasting profile e on) (λ u. (s : State) × X s × Goes profile on e s u) es fs t)

-- ---- a tracker that follows another one

pub from-start : (lasting : Lasting) (t : Tracked) → FollowsFrom lasting t [] t
from-start lasting t = record { states = λ s. (λ p. p, λ p. p); profile = refl; going = sym (left_none lasting t.profile t.going) }

-- the same of the first exchanges of some
pub from-next : (lasting : Lasting) (first : Tracked) (es : List Exchange) (k : ℕ) (e : Exchange) (old new : Tracked) → k < length es → e ≡ get_or es k e
    → FollowsFrom lasting first (take k es) old
    → AreReached (Possible old.states) (Goes old.profile old.going e) (Possible new.states) → new.profile ≡ old.profile
    → new.going ≡ left_on lasting old.profile e old.going
    → (take (k + 1) es ≡ take k es ++ e ∷ []) × FollowsFrom lasting first (take (k + 1) es) new
from-next lasting first es k e old new low is f reached kept goes =
    let more = take_more es k e low ∙ ap (λ (x : Exchange). take k es ++ x ∷ []) (sym is) in
    let next : FollowsFrom lasting first (take k es ++ e ∷ []) new = record {
      states = λ t. grind (arith, leads_joined lasting first.profile first.going (Possible first.states) (take k es) (e ∷ []) t, f.profile, f.going, f.states, reached);
      profile = kept ∙ f.profile;
      going = (rw (f.profile, f.going) at goes) ∙ sym (left_more lasting first.profile first.going (take k es) e);
    } in
    (more, rw more next)

-- and then others
pub follows-then : {lasting : Lasting} {first t u : Tracked} (es fs : List Exchange) → FollowsFrom lasting first es t → FollowsFrom lasting t fs u
    → FollowsFrom lasting first (es ++ fs) u
follows-then {lasting = lasting} {first = first} {t = t} es fs f g = record {
  states = λ s. grind (arith, leads_joined, leads_on, f.profile, f.going, f.states, g.states);
  profile = g.profile ∙ f.profile;
  going = (rw (f.profile, f.going) at g.going) ∙ sym (left_joined lasting first.profile first.going es fs);
}

-- ---- from the states before a capture

-- the states in which runs end are those to which the exchanges lead
ends_from : (profile : Profile) (first : Tracked) (es : List Exchange) (t : State) → ((s : State) → Possible first.states s ↔ IsFirst profile s) → first.profile ≡ profile
    → first.going ≡ on_at_first profile.deck → Ends profile es t ↔ LeadsFrom UntilEnded first es t
ends_from profile first es t states same all =
    let on = on_at_first profile.deck in let ends = ends_lead profile [] es t in let none = ends_none profile in rw (same, all) (
      λ e. leads_on UntilEnded profile on es (Ends profile []) (Possible first.states) t (λ u w. (states u).1 ((none u).0 w)) (ends.0 e),
      λ l. ends.1 (leads_on UntilEnded profile on es (Possible first.states) (Ends profile []) t (λ u w. (none u).1 ((states u).0 w)) l),
    )

-- so a tracker that keeps the states in which runs end follows them, and the other way round
pub follows_ends : (profile : Profile) (first : Tracked) (es : List Exchange) (t : Tracked) → ((s : State) → Possible first.states s ↔ IsFirst profile s) → first.profile ≡ profile
    → first.going ≡ on_at_first profile.deck → KeepsEnds profile es t → FollowsFrom UntilEnded first es t
follows_ends profile first es t states same all f = grind (arith, ends_from)

pub keeps_ends : (profile : Profile) (first : Tracked) (es : List Exchange) (t : Tracked) → ((s : State) → Possible first.states s ↔ IsFirst profile s) → first.profile ≡ profile
    → first.going ≡ on_at_first profile.deck → FollowsFrom UntilEnded first es t → KeepsEnds profile es t
keeps_ends profile first es t states same all f = record {
  states = λ s. let ends = ends_from profile first es s states same all in (λ p. ends.1 ((f.states s).0 p), λ e. (f.states s).1 (ends.0 e));
  profile = f.profile ∙ same;
  going = rw (same, all) at f.going;
}
