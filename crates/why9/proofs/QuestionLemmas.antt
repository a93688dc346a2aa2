-- A run that believes some replies, exchange by exchange, from the states that a tracker keeps.
use Rattle.why9.proofs.Words.{[], ap, append_assoc, AreReached, arith, before_the_first, behind_first, Bool, drop, drop-cons, drop-drop, Exchange}
use Rattle.why9.proofs.Words.{false, Profile, HasBelieving, IsBelievingFrom, IsFirst, length, length-append, length-drop, length-take-le, List, nat_le, nat_tests, sym}
use Rattle.why9.proofs.Words.{slice_index_or, slice_range, State, subst, suc, take, take-append-drop, take_rest, true, ArePassed, ArePassedTo, MayGo, HasBelievingFrom, HasBelievingFromPlace, ℕ, ◌++◌, ◌+◌, ◌-◌, ◌<◌}
use Rattle.why9.proofs.Words.{◌==◌, ◌↔◌, ◌∙◌, ◌∷◌, ◌≡◌, ◌≤◌}
use Rattle.std.specs.Prelude.{if◌then◌else◌}
use Rattle.why9.proofs.Words.{DeckStep, done, Drift, drift_join, false≢true, Forgets, forgotten_with, Going, goes_on, Hands, ignored, is_nak, on_at_first, refl, refused}

-- ---- what plays no part

-- what is believed after the last exchange
pub same_places : (profile : Profile) (on : Going) (b c : ℕ → Bool) (es : List Exchange) (s : State) (ts : List State) → ((k : ℕ) → k < length es → b k ≡ c k)
    → IsBelievingFrom profile on b s es ts → IsBelievingFrom profile on c s es ts
same_places profile on b c [] s [] same run = tt
same_places profile on b c (e ∷ es) s (t ∷ ts) same (goes, run) =
    let here = same 0 (omega arith) in (
      subst (λ (x : Bool). MayGo profile on x e s t) here goes,
      same_places profile (goes_on profile (c 0) e on) (behind_first b) (behind_first c) es t ts (λ k below. same (k + 1) (omega arith))
          (subst (λ (x : Bool). IsBelievingFrom profile (goes_on profile x e on) (behind_first b) t es ts) here run),
    )
same_places profile on b c es s ts same run = absurd run

pub goes-same : (profile : Profile) (on : Going) (X : State → Type 0) (b c : ℕ → Bool) (es : List Exchange) → ((k : ℕ) → k < length es → b k ≡ c k)
    → HasBelievingFrom profile on X b es → HasBelievingFrom profile on X c es
goes-same profile on X b c es same g = (g.0, g.1, g.2, same_places profile on b c es g.0 g.2 same g.3)

-- passing what comes before the first reply that is believed
pub goes-start : (profile : Profile) (b : ℕ → Bool) (es : List Exchange) (first : ℕ) (X : State → Type 0) → first ≤ length es
    → ((k : ℕ) → k < first → b k ≡ false) → ((s : State) → X s ↔ IsFirst profile s)
    → HasBelieving profile b es ↔ HasBelievingFromPlace profile (on_at_first profile.deck) X first b es
goes-start profile b es first X low none firsts = (
  λ r. let a = law.0 r in (a.first, (firsts a.first).1 a.is_first, a.after, a.is_run),
  λ g. law.1 (record { first = g.0; is_first = (firsts g.0).0 g.1; after = g.2; is_run = g.3 }),
)
  where
    n : length (take first es) ≡ first
    n = length-take-le first es low

    law : HasBelieving profile b es ↔ HasBelieving profile (λ k. b (first + k)) (drop first es)
    law = subst (λ (m : ℕ). HasBelieving profile b es ↔ HasBelieving profile (λ k. b (m + k)) (drop first es)) n
        (subst (λ (l : List Exchange). HasBelieving profile b l ↔ HasBelieving profile (λ k. b (length (take first es) + k)) (drop first es)) (take-append-drop first es)
        (before_the_first profile b (take first es) (drop first es) (λ k below. none k (rw n at below))))

-- ---- through one exchange

-- taking an exchange, whose reply is believed or not, leads from these states to those, and from what may be going on before it to what
-- may be behind it
pub record IsTaken (profile : Profile) (on_x : Going) (X : State → Type 0) (believed : Bool) (e : Exchange) (on_y : Going) (Y : State → Type 0) : Type 0 where
  pub states : AreReached X (MayGo profile on_x believed e) Y
  pub going : on_y ≡ goes_on profile believed e on_x

-- by a tracker of the same profile
pub taken_with : {p profile : Profile} {believed : Bool} {e : Exchange} {on_x on_y : Going} (X Y : State → Type 0) → p ≡ profile
    → AreReached X (MayGo p on_x believed e) Y → on_y ≡ goes_on p believed e on_x → IsTaken profile on_x X believed e on_y Y
taken_with {believed = believed} {e = e} {on_x = on_x} {on_y = on_y} X Y same reached going =
    subst (λ p. IsTaken p on_x X believed e on_y Y) same (record { states = reached; going = going })

goes-first : (profile : Profile) (on_x on_y : Going) (X Y : State → Type 0) (b : ℕ → Bool) (e : Exchange) (es : List Exchange) → IsTaken profile on_x X (b 0) e on_y Y
    → HasBelievingFrom profile on_x X b (e ∷ es) ↔ HasBelievingFrom profile on_y Y (behind_first b) es
goes-first profile on_x on_y X Y b e es taken = rw taken.going
    (λ g. to g.0 g.1 g.2 g.3, λ g. let w = taken.states.0 g.0 g.1 in (w.0, w.1, g.0 ∷ g.2, (w.2, g.3)))
  where
    to : (s : State) → X s → (ts : List State) → IsBelievingFrom profile on_x b s (e ∷ es) ts
        → HasBelievingFrom profile (goes_on profile (b 0) e on_x) Y (behind_first b) es
    to s x [] run = absurd run
    to s x (t ∷ ts) (goes, run) = (t, taken.states.1 s t x goes, ts, run)

-- the first of those from a place on
pub goes-through : (profile : Profile) (on_x on_y : Going) (X Y : State → Type 0) (b : ℕ → Bool) (es : List Exchange) (k : ℕ) (e : Exchange) (believed : Bool)
    → k < length es → e ≡ slice_index_or es k e → believed ≡ b k → IsTaken profile on_x X believed e on_y Y
    → HasBelievingFromPlace profile on_x X k b es ↔ HasBelievingFromPlace profile on_y Y (k + 1) b es
goes-through profile on_x on_y X Y b es k e believed low is asked taken = rw split (
  λ g. goes-same profile on_y Y _ _ (drop (k + 1) es) (λ j below. ap b (omega arith)) (first.0 g),
  λ g. first.1 (goes-same profile on_y Y _ _ (drop (k + 1) es) (λ j below. ap b (omega arith)) g),
)
  where
    split : drop k es ≡ e ∷ drop (k + 1) es
    split = let next : suc k ≡ k + 1 = omega arith in cc (drop-cons es k e low)

    first : HasBelievingFrom profile on_x X (λ j. b (k + j)) (e ∷ drop (k + 1) es) ↔ HasBelievingFrom profile on_y Y (λ j. b (k + (j + 1))) (drop (k + 1) es)
    first = let here : believed ≡ b (k + 0) = asked ∙ ap b (omega arith) in
        goes-first profile on_x on_y X Y (λ j. b (k + j)) e (drop (k + 1) es) (subst (λ x. IsTaken profile on_x X x e on_y Y) here taken)

-- ---- past a NAK that is believed

-- a run goes on from where a drift to its first state begins
drifts_before : (profile : Profile) (on : Going) (b : ℕ → Bool) (es : List Exchange) (s t : State) (ts : List State) → Drift profile on s t
    → IsBelievingFrom profile on b t es ts → IsBelievingFrom profile on b s es ts
drifts_before profile on b [] s t [] drift run = tt
drifts_before profile on b (e ∷ es) s t (u ∷ us) drift ((d, v, more, does, forgets), run) = ((d, v, drift_join profile on s t d drift more, does, forgets), run)
drifts_before profile on b es s t ts drift run = absurd run

keeps_state : (profile : Profile) (e : Exchange) (s t : State) → is_nak e.reply ≡ true → DeckStep profile e.command e.reply s t → t ≡ s
keeps_state profile e s t nak (refused is same) = same
keeps_state profile e s t nak (done other shows does) = absurd (false≢true (sym other ∙ nak))
keeps_state profile e s t nak (ignored other shows may local same) = same

keeps_all : (profile : Profile) (e : Exchange) (s t : State) → is_nak e.reply ≡ true → Forgets profile (forgotten_with profile.deck e) s t ↔ (t ≡ s)
keeps_all profile e s t nak = rw nak (λ same. same, λ same. same)

keeps_going : (profile : Profile) (on : Going) (e : Exchange) → is_nak e.reply ≡ true → goes_on profile true e on ≡ on
keeps_going profile on e nak = by_hands profile.hands refl
  where
    same : (group : Bool) → (if group then on else on) ≡ on
    same true = refl
    same false = refl

    by_hands : (hands : Hands) → profile.hands ≡ hands → goes_on profile true e on ≡ on
    by_hands Hands.Allowed is = rw is refl
    by_hands Hands.None is = rw (is, nak) (same (e.block.group == 2))

-- it keeps the state and what may be going on, and the drift before it goes on in the next one
goes-nak : (profile : Profile) (on : Going) (X : State → Type 0) (e : Exchange) (es : List Exchange) → is_nak e.reply ≡ true
    → HasBelievingFrom profile on X (λ k. true) (e ∷ es) ↔ HasBelievingFrom profile on X (λ k. true) es
goes-nak profile on X e es nak = (λ g. to g.0 g.1 g.2 g.3, from)
  where
    kept : goes_on profile true e on ≡ on
    kept = keeps_going profile on e nak

    to : (s : State) → X s → (ts : List State) → IsBelievingFrom profile on (λ k. true) s (e ∷ es) ts → HasBelievingFrom profile on X (λ k. true) es
    to s x [] run = absurd run
    to s x (t ∷ ts) ((d, u, drift, does, forgets), run) =
        let same = (keeps_all profile e u t nak).0 forgets ∙ keeps_state profile e d u nak does in
        let rest = subst (λ after. IsBelievingFrom profile after (λ k. true) t es ts) kept run in
        (s, x, ts, drifts_before profile on (λ k. true) es s t ts (subst (λ u. Drift profile on s u) (sym same) drift) rest)

    from : HasBelievingFrom profile on X (λ k. true) es → HasBelievingFrom profile on X (λ k. true) (e ∷ es)
    from (s, x, ts, run) =
        let rest = subst (λ after. IsBelievingFrom profile after (λ k. true) s es ts) (sym kept) run in
        (s, x, s ∷ ts, ((s, s, ([], refl), refused nak refl, (keeps_all profile e s s nak).1 refl), rest))

-- the first of those from a place on
pub goes-past-nak : (profile : Profile) (on : Going) (X : State → Type 0) (es : List Exchange) (k : ℕ) (e : Exchange) → k < length es → e ≡ slice_index_or es k e
    → is_nak e.reply ≡ true → HasBelievingFromPlace profile on X k (λ k. true) es ↔ HasBelievingFromPlace profile on X (k + 1) (λ k. true) es
goes-past-nak profile on X es k e low is nak = rw split (goes-nak profile on X e (drop (k + 1) es) nak)
  where
    split : drop k es ≡ e ∷ drop (k + 1) es
    split = let next : suc k ≡ k + 1 = omega arith in cc (drop-cons es k e low)

-- ---- through exchanges that are passed

pub passed-more : (profile : Profile) (on_x on_y on_z : Going) (X Y Z : State → Type 0) (es : List Exchange) (e : Exchange) → ArePassed profile on_x X es on_y Y
    → IsTaken profile on_y Y false e on_z Z → ArePassed profile on_x X (es ++ e ∷ []) on_z Z
passed-more profile on_x on_y on_z X Y Z es e passed taken = record { goes = goes }
  where
    size : length (es ++ e ∷ []) ≡ length es + 1
    size = length-append es (e ∷ [])

    goes : (b : ℕ → Bool) (rest : List Exchange) → ((k : ℕ) → k < length (es ++ e ∷ []) → b k ≡ false)
        → HasBelievingFrom profile on_x X b ((es ++ e ∷ []) ++ rest) ↔ HasBelievingFrom profile on_z Z (λ k. b (length (es ++ e ∷ []) + k)) rest
    goes b rest none =
        let all = passed.goes b (e ∷ rest) (λ k below. none k (omega (arith, size))) in
        let here : false ≡ b (length es + 0) = sym (none (length es + 0) (omega (arith, size))) in
        let one = goes-first profile on_y on_z Y Z (λ k. b (length es + k)) e rest (subst (λ x. IsTaken profile on_y Y x e on_z Z) here taken) in
        rw (append_assoc es (e ∷ []) rest) (
          λ g. goes-same profile on_z Z _ _ rest (λ k below. ap b (omega (arith, size))) (one.0 (all.0 g)),
          λ g. all.1 (one.1 (goes-same profile on_z Z _ _ rest (λ k below. ap b (omega (arith, size))) g)),
        )

-- believing all that comes after them
pub goes-passed : (profile : Profile) (on_x on_y : Going) (X Y : State → Type 0) (passed believed : List Exchange) → ArePassed profile on_x X passed on_y Y
    → HasBelievingFrom profile on_x X (nat_le (length passed)) (passed ++ believed) ↔ HasBelievingFrom profile on_y Y (λ k. true) believed
goes-passed profile on_x on_y X Y passed believed are =
    let all = are.goes (nat_le (length passed)) believed (λ k below. grind (arith, nat_tests)) in (
      λ g. goes-same profile on_y Y _ _ believed (λ k below. grind (arith, nat_tests)) (all.0 g),
      λ g. all.1 (goes-same profile on_y Y _ _ believed (λ k below. grind (arith, nat_tests)) g),
    )

-- ---- through those of a range

module _ (es : List Exchange) (low place : ℕ) (ascend : low ≤ place) (within : place ≤ length es) where
  range_length : length (slice_range es low place) ≡ place - low
  range_length = length-take-le (place - low) (drop low es) (simp length-drop (omega arith))

  range_rest : slice_range es low place ++ drop place es ≡ drop low es
  range_rest = let whole = take-append-drop (place - low) (drop low es) in
      let rest = drop-drop (place - low) low es in
      let same : low + (place - low) ≡ place = omega arith in
      cc

pub passed-to : (profile : Profile) (es : List Exchange) (low place : ℕ) (on_x on_y : Going) (X Y : State → Type 0) → low ≤ place → place ≤ length es
    → ArePassed profile on_x X (slice_range es low place) on_y Y → ArePassedTo profile es low on_x X place on_y Y
passed-to profile es low place on_x on_y X Y ascend within passed = record { goes = goes }
  where
    size : length (slice_range es low place) ≡ place - low
    size = range_length es low place ascend within

    goes : (b : ℕ → Bool) → ((k : ℕ) → low ≤ k → k < place → b k ≡ false)
        → HasBelievingFromPlace profile on_x X low b es ↔ HasBelievingFromPlace profile on_y Y place b es
    goes b none =
        let all = rw (range_rest es low place ascend within) at
        (passed.goes (λ k. b (low + k)) (drop place es) (λ k below. none (low + k) (omega arith) (omega (arith, size)))) in (
          λ g. goes-same profile on_y Y _ _ (drop place es) (λ k below. ap b (omega (arith, size))) (all.0 g),
          λ g. all.1 (goes-same profile on_y Y _ _ (drop place es) (λ k below. ap b (omega (arith, size))) g),
        )

-- a question passes up to its place, and believes what is left
pub goes-range : (profile : Profile) (es : List Exchange) (low place : ℕ) (on : Going) (X : State → Type 0) → low ≤ place → place ≤ length es
    → HasBelievingFrom profile on X (nat_le (length (slice_range es low place))) (slice_range es low place ++ slice_range es place (length es))
    ↔ HasBelievingFromPlace profile on X low (nat_le place) es
goes-range profile es low place on X ascend within = rw (take_rest es place, range_rest es low place ascend within, range_length es low place ascend within) (
  λ g. goes-same profile on X _ _ (drop low es) (λ k below. grind (arith, nat_tests)) g,
  λ g. goes-same profile on X _ _ (drop low es) (λ k below. grind (arith, nat_tests)) g,
)
