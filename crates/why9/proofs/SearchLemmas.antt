-- The places found: in order, contradicting with all that follow, and each of them needed; and the tracker that goes along.
use Rattle.why9.proofs.Words.{first_may, Going, goes_on, on_at_first, stays, subst}
use Rattle.why9.proofs.Words.{[], All, All-head, All-nil, All-push, All-tail, all_pairs_push, AllPairs, ap, ArePassedTo, arith, behind_first, believing_all}
use Rattle.why9.proofs.Words.{believing_fewer, Bool, BreaksAtLast, Contradict, MayGo, drop, Exchange, false, false≢true, HasBelievingFrom, HasBelievingFromPlace, Profile, HasBelieving, inl, inr}
use Rattle.why9.proofs.Words.{is_among, is_among_others, IsBelievingFrom, IsBetween, IsContradiction, IsFirst, length, length-append, List, list_any-append, nat_le, nat_lt, nat_tests}
use Rattle.why9.proofs.Words.{refl, slice_index_or, slice_range, State, sym, take_rest, true, ℕ, ◌++◌, ◌+◌, ◌-◌, ◌<◌, ◌==◌, ◌||◌, ◌↔◌, ◌∙◌, ◌∷◌, ◌≡◌, ◌≤◌, ◌⊎◌}
use Rattle.why9.proofs.QuestionLemmas.{IsTaken, goes-same, goes-start, goes-through, same_places}

-- ---- places

-- a place is at this one or after it, or is one of those found
abbrev pub is_in_question : ℕ → List ℕ → ℕ → Bool
is_in_question from found k = nat_le from k || is_among found k

-- what holds of all places holds of each
pub among_all : (P : ℕ → Type 0) (ps : List ℕ) (k : ℕ) → All P ps → is_among ps k ≡ true → P k
among_all P [] k all e = absurd (false≢true e)
among_all P (p ∷ ps) k all e = let here = All-head P p ps all in let rest = among_all P ps k (All-tail P p ps all) in grind (arith, nat_tests)

-- a place is one of these and one more, if it is one of these or that one
among_more : (ps : List ℕ) (p k : ℕ) → is_among (ps ++ p ∷ []) k ≡ (is_among ps k || ((p == k) || false))
among_more ps p k = list_any-append (λ q. q == k) ps (p ∷ [])

among_push : (ps : List ℕ) (p k : ℕ) → is_among (ps ++ p ∷ []) k ≡ true → (is_among ps k ≡ true) ⊎ (k ≡ p)
among_push ps p k e = let more = among_more ps p k in grind (arith, nat_tests)

not_among : (low : ℕ) (found : List ℕ) → All (λ p. p < low) found → (k : ℕ) → low ≤ k → is_among found k ≡ false
not_among low found below k le = let l = among_all (λ p. p < low) found k below in grind (arith, nat_tests)

-- ---- the places found

-- they ascend, and are before `low`: with every reply from there on they contradict, and each of them is needed
pub record AreFound (profile : Profile) (es : List Exchange) (low : ℕ) (found : List ℕ) : Type 0 where
  pub ascend : AllPairs (λ p q. p < q) found
  pub below : All (λ p. p < low) found
  pub contradict : Contradict profile (is_in_question low found) es
  pub needed : (p : ℕ) → is_among found p ≡ true → HasBelieving profile (λ k. nat_lt p k || is_among_others found p k) es

pushed_ascend : (low place : ℕ) (found : List ℕ) → AllPairs (λ p q. p < q) found → All (λ p. p < low) found → low ≤ place
    → AllPairs (λ p q. p < q) (found ++ place ∷ [])
pushed_ascend low place found ascend below le = all_pairs_push (λ p q. p < q) found place ascend (λ k d l. let b = below k d l in omega arith)

-- what is asked of the others, and after p, is asked without a last place after p
others_push : (low p place : ℕ) (found : List ℕ) → All (λ q. q < low) found → low ≤ place → is_among found p ≡ true
    → (k : ℕ) → (nat_lt p k || is_among_others (found ++ place ∷ []) p k) ≡ true → (nat_lt p k || is_among_others found p k) ≡ true
others_push low p place found below le is k e =
    let l = among_all (λ q. q < low) found p below is in let more = among_more found place k in grind (arith, nat_tests)

-- none, before the first
pub found-start : (profile : Profile) (es : List Exchange) (place : ℕ) → Contradict profile (nat_le place) es → AreFound profile es place []
found-start profile es place contradict = record {
  ascend = λ i j d l m. absurd (omega arith);
  below = All-nil (λ p. p < place);
  contradict = λ w. contradict (believing_fewer profile (is_in_question place []) (nat_le place) es (λ k e. grind (arith, nat_tests)) w);
  needed = λ p e. absurd (false≢true e);
}

-- one more: from it on the replies contradict those found, and after it they do not
pub found-more : (profile : Profile) (es : List Exchange) (low place : ℕ) (found : List ℕ) → AreFound profile es low found → low ≤ place
    → Contradict profile (is_in_question place found) es → HasBelieving profile (is_in_question (place + 1) found) es → AreFound profile es (place + 1) (found ++ place ∷ [])
found-more profile es low place found old le contradict after = record {
  ascend = pushed_ascend low place found old.ascend old.below le;
  below = All-push (λ p. p < place + 1) found place (λ i d l. let b = old.below i d l in omega arith) (omega arith);
  contradict = λ w. contradict (believing_fewer profile (is_in_question (place + 1) (found ++ place ∷ [])) (is_in_question place found) es
      (λ k e. let more = among_more found place k in grind (arith, nat_tests)) w);
  needed = λ p e. by p (among_push found place p e);
}
  where
    by : (p : ℕ) → (is_among found p ≡ true) ⊎ (p ≡ place) → HasBelieving profile (λ k. nat_lt p k || is_among_others (found ++ place ∷ []) p k) es
    by p (inl is) = believing_fewer profile _ _ es (others_push low p place found old.below le is) (old.needed p is)
    by p (inr same) = believing_fewer profile (is_in_question (place + 1) found) _ es (λ k e. let more = among_more found place k in grind (arith, nat_tests))
        after

-- ---- all but the last exchange

pub none_from_first : (profile : Profile) (es : List Exchange) → BreaksAtLast profile es → Contradict profile (nat_le 0) es
none_from_first profile es breaks w =
    breaks.has_none ((believing_all profile es).0 (believing_fewer profile (nat_le 0) (λ k. true) es (λ k e. grind (arith, nat_tests)) w))

pub some_last : (profile : Profile) (es : List Exchange) → BreaksAtLast profile es → 0 < length es
some_last profile es breaks = let n = simp length-append at (ap length breaks.is_split) in omega arith

-- a run goes on by an exchange that is not believed
passes_last : (profile : Profile) (on : Going) (b : ℕ → Bool) (es : List Exchange) (e : Exchange) (s : State) (ts : List State) → IsFirst profile s → b (length es) ≡ false
    → IsBelievingFrom profile on b s es ts → (us : List State) × IsBelievingFrom profile on b s (es ++ e ∷ []) us
passes_last profile on b [] e s ts first none run = (s ∷ [], (subst (λ x. MayGo profile on x e s s) (sym none) (stays profile on e s first), tt))
passes_last profile on b (f ∷ fs) e s [] first none run = absurd run
passes_last profile on b (f ∷ fs) e s (t ∷ ts) first none (goes, run) =
    let after = goes_on profile (b 0) f on in
    let more = passes_last profile after (behind_first b) fs e t ts (first_may profile on (b 0) f s t first goes) (ap b (omega arith) ∙ none) run in
    (t ∷ more.0, (goes, more.1))

pub without_last : (profile : Profile) (b : ℕ → Bool) (es : List Exchange) (last : ℕ) → BreaksAtLast profile es → last + 1 ≡ length es → b last ≡ false → HasBelieving profile b es
without_last profile b es last breaks is none =
    let w = believing_fewer profile (λ k. true) b breaks.before (λ k e. refl) ((believing_all profile breaks.before).1 breaks.has_run) in
    let n = simp length-append at (ap length breaks.is_split) in
    let place : length breaks.before ≡ last = omega arith in
    let more = passes_last profile (on_at_first profile.deck) b breaks.before breaks.last w.first w.after w.is_first (ap b place ∙ none) w.is_run in
    rw breaks.is_split (record { first = w.first; is_first = w.is_first; after = more.0; is_run = more.1 })

-- ---- the tracker that goes along

-- it keeps these states, and what may then be going on: those after everything before `low`, where the replies at the places found are
-- believed and no others
pub record IsAlong (profile : Profile) (on : Going) (X : State → Type 0) (es : List Exchange) (low : ℕ) (found : List ℕ) : Type 0 where
  pub goes : (b : ℕ → Bool) → ((k : ℕ) → k < low → b k ≡ is_among found k) → HasBelieving profile b es ↔ HasBelievingFromPlace profile on X low b es

-- the first states are those before any place, as long as none is found, and all that is named may be going on
along-start : (profile : Profile) (X : State → Type 0) (es : List Exchange) (place : ℕ) → ((s : State) → X s ↔ IsFirst profile s) → place ≤ length es
    → IsAlong profile (on_at_first profile.deck) X es place []
along-start profile X es place firsts le = record { goes = λ b none. goes-start profile b es place X le none firsts }

along-push : (profile : Profile) (on : Going) (X : State → Type 0) (es : List Exchange) (place : ℕ) (found : List ℕ) → IsAlong profile on X es place found
    → IsAlong profile on X es place (found ++ place ∷ [])
along-push profile on X es place found along =
    record { goes = λ b same. along.goes b (λ k below. let more = among_more found place k in let here = same k below in grind (arith, nat_tests)) }

-- it believes the reply at a place found
along-believed : (profile : Profile) (on_x on_y : Going) (X Y : State → Type 0) (es : List Exchange) (place : ℕ) (e : Exchange) (found : List ℕ) → place < length es
    → e ≡ slice_index_or es place e → is_among found place ≡ true → IsTaken profile on_x X true e on_y Y → IsAlong profile on_x X es place found
    → IsAlong profile on_y Y es (place + 1) found
along-believed profile on_x on_y X Y es place e found low is among taken along = record {
  goes = λ b same.
      let before = along.goes b (λ k below. same k (omega arith)) in
      let through = goes-through profile on_x on_y X Y b es place e true low is (sym (same place (omega arith) ∙ among)) taken in
      (λ w. through.0 (before.0 w), λ g. before.1 (through.1 g));
}

-- it passes what is between two of them
along-passed : (profile : Profile) (on_x on_y : Going) (X Y : State → Type 0) (es : List Exchange) (low place : ℕ) (found : List ℕ) → All (λ p. p < low) found → low ≤ place
    → ArePassedTo profile es low on_x X place on_y Y → IsAlong profile on_x X es low found → IsAlong profile on_y Y es place found
along-passed profile on_x on_y X Y es low place found below le passed along = record {
  goes = λ b same.
      let before = along.goes b (λ k l. same k (omega arith)) in
      let after = passed.goes b (λ k m l. same k l ∙ not_among low found below k m) in
      (λ w. after.0 (before.0 w), λ g. before.1 (after.1 g));
}

-- what is asked of it is asked of all exchanges
along-asked : (profile : Profile) (on : Going) (X : State → Type 0) (es : List Exchange) (low place : ℕ) (found : List ℕ) → All (λ p. p < low) found → low ≤ place
    → IsAlong profile on X es low found → HasBelieving profile (is_in_question place found) es ↔ HasBelievingFromPlace profile on X low (nat_le place) es
along-asked profile on X es low place found below le along =
    let all = along.goes (is_in_question place found) (λ k l. grind (arith, nat_tests)) in (
      λ w. goes-same profile on X _ _ (drop low es) (λ j l. let none = not_among low found below (low + j) (omega arith) in grind (arith, nat_tests)) (all.0 w),
      λ g. all.1 (goes-same profile on X _ _ (drop low es) (λ j l. let none = not_among low found below (low + j) (omega arith) in grind (arith, nat_tests)) g),
    )

-- ---- the search

-- the first place is found by a tracker of the first states
pub first-asked : (profile : Profile) (X : State → Type 0) (es : List Exchange) (place : ℕ) → ((s : State) → X s ↔ IsFirst profile s) → place ≤ length es
    → HasBelievingFrom profile (on_at_first profile.deck) X (nat_le (length {A = Exchange} [])) ([] ++ slice_range es place (length es))
    ↔ HasBelieving profile (nat_le place) es
first-asked profile X es place firsts le =
    let all = goes-start profile (nat_le place) es place X le (λ k below. grind (arith, nat_tests)) firsts in
    rw (take_rest es place) (
      λ g. all.1 (goes-same profile (on_at_first profile.deck) X _ _ (drop place es) (λ k below. grind (arith, nat_tests)) g),
      λ w. goes-same profile (on_at_first profile.deck) X _ _ (drop place es) (λ k below. grind (arith, nat_tests)) (all.0 w),
    )

-- between two places the next one is looked for
pub between-moved : (profile : Profile) (on_x on_y : Going) (X Y : State → Type 0) (es : List Exchange) (low place high : ℕ) → IsBetween profile on_x X es low high
    → low ≤ place → place < high → ¬ HasBelievingFromPlace profile on_x X low (nat_le place) es → ArePassedTo profile es low on_x X place on_y Y
    → IsBetween profile on_y Y es place high
between-moved profile on_x on_y X Y es low place high old above below none passed = record {
  low_high = below;
  high_end = old.high_end;
  contradict = λ g. none ((passed.goes (nat_le place) (λ k m l. grind (arith, nat_tests))).1 g);
  after = (passed.goes (nat_le high) (λ k m l. grind (arith, nat_tests))).0 old.after;
}

pub between-nearer : (profile : Profile) (on : Going) (X : State → Type 0) (es : List Exchange) (low place high : ℕ) → IsBetween profile on X es low high → low < place
    → place < high → HasBelievingFromPlace profile on X low (nat_le place) es → IsBetween profile on X es low place
between-nearer profile on X es low place high old above below run =
    record { low_high = above; high_end = let end = old.high_end in omega arith; contradict = old.contradict; after = run }

pub passed-on : (profile : Profile) (on_x on_y on_z : Going) (X Y Z : State → Type 0) (es : List Exchange) (from low place : ℕ) → from ≤ low → low ≤ place
    → ArePassedTo profile es from on_x X low on_y Y → ArePassedTo profile es low on_y Y place on_z Z → ArePassedTo profile es from on_x X place on_z Z
passed-on profile on_x on_y on_z X Y Z es from low place le more one two = record {
  goes = λ b none.
      let first = one.goes b (λ k m l. none k m (omega arith)) in
      let second = two.goes b (λ k m l. none k (omega arith) l) in
      (λ g. second.0 (first.0 g), λ g. first.1 (second.1 g));
}

-- the places so far, of which this is the last, and the states that the tracker keeps before it believes the reply there, with what may
-- then be going on
pub record IsReached (profile : Profile) (on : Going) (X : State → Type 0) (es : List Exchange) (place : ℕ) (places : List ℕ) : Type 0 where
  pub within : place < length es
  pub earlier : List ℕ
  pub end_with : places ≡ earlier ++ place ∷ []
  pub found : AreFound profile es (place + 1) places
  pub along : IsAlong profile on X es place places

pub reached-first : (profile : Profile) (X : State → Type 0) (es : List Exchange) (place : ℕ) → ((s : State) → X s ↔ IsFirst profile s)
    → place < length es → Contradict profile (nat_le place) es → HasBelieving profile (nat_le (place + 1)) es
    → IsReached profile (on_at_first profile.deck) X es place (place ∷ [])
reached-first profile X es place firsts within contradict after = record {
  within = within;
  earlier = [];
  end_with = refl;
  found = found-more profile es place place [] (found-start profile es place contradict) (omega arith) (found-start profile es place contradict).contradict
      (believing_fewer profile (nat_le (place + 1)) (is_in_question (place + 1) []) es (λ k e. grind (arith, nat_tests)) after);
  along = along-push profile (on_at_first profile.deck) X es place [] (along-start profile X es place firsts (omega arith));
}

-- the reply at the place is believed
reached-believed : (profile : Profile) (on_x on_y : Going) (X Y : State → Type 0) (es : List Exchange) (place : ℕ) (e : Exchange) (found : List ℕ)
    → e ≡ slice_index_or es place e → IsTaken profile on_x X true e on_y Y → IsReached profile on_x X es place found → IsAlong profile on_y Y es (place + 1) found
reached-believed profile on_x on_y X Y es place e found is taken at =
    along-believed profile on_x on_y X Y es place e found at.within is
    (let more = among_more at.earlier place place in rw at.end_with (grind (arith, nat_tests))) taken at.along

-- where the next place is looked for
pub reached-between : (profile : Profile) (on_x on_y : Going) (X Y : State → Type 0) (es : List Exchange) (place : ℕ) (e : Exchange) (found : List ℕ)
    → BreaksAtLast profile es → e ≡ slice_index_or es place e → IsTaken profile on_x X true e on_y Y → IsReached profile on_x X es place found
    → place + 1 < length es → IsBetween profile on_y Y es (place + 1) (length es)
reached-between profile on_x on_y X Y es place e found breaks is taken at more =
    let along = reached-believed profile on_x on_y X Y es place e found is taken at in
    let none = not_among (place + 1) found at.found.below (length es - 1) (omega arith) in
    record {
      low_high = more;
      high_end = omega arith;
      contradict = λ g. at.found.contradict ((along-asked profile on_y Y es (place + 1) (place + 1) found at.found.below (omega arith) along).1 g);
      after = (along-asked profile on_y Y es (place + 1) (length es) found at.found.below (omega arith) along).0
          (without_last profile (is_in_question (length es) found) es (length es - 1) breaks (omega arith) (grind (arith, nat_tests)));
    }

-- it is found, and the tracker passes up to it
pub reached-next : (profile : Profile) (on_x on_y on_z : Going) (X Y Z : State → Type 0) (es : List Exchange) (place next : ℕ) (e : Exchange) (found : List ℕ)
    → e ≡ slice_index_or es place e → IsTaken profile on_x X true e on_y Y → IsReached profile on_x X es place found → place + 1 ≤ next
    → ArePassedTo profile es (place + 1) on_y Y next on_z Z → IsBetween profile on_z Z es next (next + 1) → IsReached profile on_z Z es next (found ++ next ∷ [])
reached-next profile on_x on_y on_z X Y Z es place next e found is taken at le passed between = record {
  within = let high = between.high_end in omega arith;
  earlier = found;
  end_with = refl;
  found = found-more profile es (place + 1) next found at.found le (λ w. between.contradict ((asked next (omega arith)).0 w))
      ((asked (next + 1) (omega arith)).1 between.after);
  along = along-push profile on_z Z es next found along;
}
  where
    along : IsAlong profile on_z Z es next found
    along = along-passed profile on_y on_z Y Z es (place + 1) next found at.found.below le passed
        (reached-believed profile on_x on_y X Y es place e found is taken at)

    asked : (from : ℕ) → next ≤ from → HasBelieving profile (is_in_question from found) es ↔ HasBelievingFromPlace profile on_z Z next (nat_le from) es
    asked from low = along-asked profile on_z Z es next from found (λ i d l. let b = at.found.below i d l in omega arith) low along

-- the last place is that of the last exchange
pub reached-all : (profile : Profile) (on : Going) (X : State → Type 0) (es : List Exchange) (place : ℕ) (found : List ℕ) → IsReached profile on X es place found
    → length es ≤ place + 1 → IsContradiction profile es found
reached-all profile on X es place found at past = record {
  contradict = λ w. at.found.contradict (record {
    first = w.first;
    is_first = w.is_first;
    after = w.after;
    is_run = same_places profile (on_at_first profile.deck) _ _ es w.first w.after (λ k below. grind (arith, nat_tests)) w.is_run;
  });
  needed = at.found.needed;
  ascend = at.found.ascend;
  earlier = at.earlier;
  last = place;
  end_with = at.end_with;
  is_last = let low = at.within in omega arith;
}
