-- The way back from the end of a capture to a run of the deck: the trackers at marks, and one exchange back.
use Rattle.run9.proofs.Words.{[], All, AllPairs, ap, append-nil, append_assoc, AreMarks, arith, drop, Exchange, Goes, follows-then, FollowsFrom, from-start, get_or, GoesBack, LastMarkFollows}
use Rattle.run9.proofs.Words.{inl, inr, IsFirst, IsNextMark, IsRun, last_mark, leads_joined, LeadsFrom, length, length_push, List, Mark, None, Option, place_of, Possible, Profile, refl}
use Rattle.run9.proofs.Words.{reverse, reverse-append, reverse-reverse, slice_get, slice_range, Some, State, subst, suc, sym, take, take-add, take_all, take_more, Tracked, tracked_by, ℕ}
use Rattle.run9.proofs.Words.{◌++◌, ◌+◌, ◌-◌, ◌<◌, ◌↔◌, ◌∙◌, ◌∷◌, ◌≡◌, ◌≤◌}
use Rattle.run9.proofs.Words.{goes_on, Going, IsRunFrom, Lasting, left_more, left_on, left_through, on_at_first, true, UntilEnded}
use Rattle.std.proofs.Math.Seq.{drop-cons}
use Rattle.std.proofs.lemmas.Bool.{cases_lt, false≢true}
use Rattle.std.proofs.lemmas.Grind.{common_steps}
use Rattle.std.proofs.Math.ListN.{set}
use Rattle.std.proofs.lemmas.List.{drop_all, set_at}
use Rattle.std.proofs.lemmas.List.Elements.{All-push}
use Rattle.std.proofs.lemmas.List.Quantifiers.{all_pairs_push}
use Rattle.std.proofs.lemmas.Option.{get_or_from_slice_get, slice_get-get_or, slice_get_read, slice_get_within}
use Rattle.std.specs.Option.{IsSome, option_to_list}

-- the first exchanges, cut at a place
parts : (es : List Exchange) (first at : ℕ) → first ≤ at → take at es ≡ take first es ++ slice_range es first at
parts es first at low =
    let sum : at ≡ first + (at - first) = omega arith in
    ap (λ n. take n es) sum ∙ take-add first (at - first) es

-- and going back from one of them finds a run
pub back_run : (profile : Profile) (first : Tracked) (es : List Exchange) (t u : State) (new : List State) → ((s : State) → Possible first.states s ↔ IsFirst profile s)
    → first.profile ≡ profile → first.going ≡ on_at_first profile.deck → GoesBack UntilEnded first.profile first.going (Possible first.states) es t [] new u
    → IsRun profile es (reverse new)
back_run profile first es t u new states same all g = rw (g.put, reverse-reverse g.after) (u, (states u).0 g.from, rw (same, all) at (g.is_run refl))

-- ---- marks

-- what holds of all marks holds of each
at_mark : (P : Mark → Type 0) (marks : List Mark) (k : ℕ) (m : Mark) → All P marks → slice_get marks k ≡ Some m → P m
at_mark P marks k m all e = subst P (get_or_from_slice_get marks k m m e) (all k m (slice_get_within marks k m e))

last_pushed : (marks : List Mark) (m : Mark) → last_mark (marks ++ m ∷ []) ≡ Some m
last_pushed marks m = slice_get_read (marks ++ m ∷ []) (length (marks ++ m ∷ [])) (length (marks ++ m ∷ []) - 1) m refl (omega (arith, length_push marks m))
    (let n = length_push marks m in grind (arith, common_steps))

-- the last of some, and another in its place
pub last_got : (before : List Mark) (m d : Mark) → get_or (before ++ m ∷ []) (length (before ++ m ∷ []) - 1) d ≡ m
last_got before m d = get_or_from_slice_get (before ++ m ∷ []) (length (before ++ m ∷ []) - 1) m d (last_pushed before m)

pub last_set : (before : List Mark) (m n : Mark) → set (before ++ m ∷ []) (length (before ++ m ∷ []) - 1) n ≡ before ++ n ∷ []
last_set before m n = set_at before m [] n (length (before ++ m ∷ []) - 1) (let long = length_push before m in omega arith)

-- the last tracker that is marked keeps the states to which the exchanges before it lead
pub nearest_follows : {lasting : Lasting} {first : Tracked} {es : List Exchange} {at : ℕ} {marks : List Mark} → AreMarks lasting first es at marks
    → FollowsFrom lasting first (take (place_of (last_mark marks)) es) (tracked_by first (last_mark marks))
nearest_follows {lasting = lasting} {first = first} {es = es} {marks = marks} are = by (last_mark marks) refl
  where
    by : (o : Option Mark) → last_mark marks ≡ o → FollowsFrom lasting first (take (place_of o) es) (tracked_by first o)
    by None e = from-start lasting first
    by (Some m) e = at_mark (λ n. FollowsFrom lasting first (take n.place es) n.tracker) marks (length marks - 1) m are.follow e

-- no mark is after the last
before_last_mark : (marks : List Mark) → AllPairs (λ a b. a.place < b.place) marks → (k : ℕ) (d : Mark) → k < length marks
    → (get_or marks k d).place ≤ place_of (last_mark marks)
before_last_mark marks ascend k d low = elim (cases_lt k (length marks - 1)) [
  | inl less ↦ let before = ascend k (length marks - 1) d less (omega arith) in rw last (omega arith)
  | inr more ↦ let same : k ≡ length marks - 1 = omega arith in rw (last, same) (omega arith)
]
  where
    last : last_mark marks ≡ Some (get_or marks (length marks - 1) d)
    last = slice_get-get_or marks (length marks - 1) d (omega arith)

pub no_marks : (lasting : Lasting) (first : Tracked) (es : List Exchange) (at : ℕ) → AreMarks lasting first es at []
no_marks lasting first es at = record {
  follow = λ k d low. absurd (omega arith);
  ascend = λ i j d low within. absurd (omega arith);
  within = λ k d low. absurd (omega arith);
}

-- one mark more
pub marked : {lasting : Lasting} {first : Tracked} {es : List Exchange} {at : ℕ} {marks : List Mark} (m : Mark) → AreMarks lasting first es (at + 1) marks
    → IsNextMark lasting (place_of (last_mark marks)) (tracked_by first (last_mark marks)) es at m
    → AreMarks lasting first es (at + 1) (marks ++ m ∷ []) × (place_of (last_mark (marks ++ m ∷ [])) ≡ m.place)
marked {lasting = lasting} {first = first} {es = es} {at = at} {marks = marks} m are next = (
  record {
    follow = All-push (λ n. FollowsFrom lasting first (take n.place es) n.tracker) marks m are.follow
        (subst (λ l. FollowsFrom lasting first l m.tracker) (sym (parts es (place_of (last_mark marks)) m.place (let on = next.on in omega arith)))
        (follows-then _ _ (nearest_follows are) next.follows));
    ascend = all_pairs_push (λ a b. a.place < b.place) marks m are.ascend
        (λ k d low. let up = before_last_mark marks are.ascend k d low in let on = next.on in omega arith);
    within = All-push (λ n. n.place < at + 1) marks m are.within (let within = next.within in omega arith);
  },
  ap place_of (last_pushed marks m),
)

-- a mark is put there with the last tracker, and that goes on
pub went_on : {lasting : Lasting} {first : Tracked} {es : List Exchange} {at : ℕ} {marks : List Mark} (new : List Mark) (m : Mark) (place : ℕ)
    → AreMarks lasting first es (at + 1) marks
    → place ≡ place_of (last_mark marks) → m.tracker ≡ tracked_by first (last_mark marks) → place < m.place → m.place ≤ at
    → LastMarkFollows lasting marks m (slice_range es place m.place) new → AreMarks lasting first es (at + 1) new × (place_of (last_mark new) ≡ m.place)
went_on {first = first} {es = es} {marks = marks} new m place are is same on within g =
    let next = marked g.after are (record {
      on = omega (arith, is, g.place);
      within = omega (arith, g.place);
      follows = rw (g.place, ← is, ← same) g.follows;
    }) in
    rw g.same (next.0, next.1 ∙ g.place)

-- one mark less, the one before the exchange at `at`, or none
pub unmarked : {lasting : Lasting} {first : Tracked} {es : List Exchange} {at : ℕ} {marks rest : List Mark} (o : Option Mark) → AreMarks lasting first es (at + 1) marks
    → place_of (last_mark marks) ≡ at → marks ≡ rest ++ option_to_list o → (0 < length marks → IsSome o) → AreMarks lasting first es at rest
unmarked {marks = marks} {rest = rest} None are is split some =
    let empty : ¬ (0 < length marks) = λ low. false≢true (some low) in
    let none : length rest ≡ 0 = omega (arith, ap length split, ap length (append-nil rest), empty) in
    record { follow = λ k d low. absurd (omega arith); ascend = λ i j d low within. absurd (omega arith); within = λ k d low. absurd (omega arith) }
unmarked {lasting = lasting} {first = first} {es = es} {at = at} {marks = marks} {rest = rest} (Some m) are is split some = record {
  follow = λ k d low. subst (λ (n : Mark). FollowsFrom lasting first (take n.place es) n.tracker) (same k d low) ((rw split at are.follow) k d (omega (arith, long)));
  ascend = λ i j d low within. rw (← same i d (omega arith), ← same j d within) ((rw split at are.ascend) i j d low (omega (arith, long)));
  within = λ k d low.
      let before = (rw split at are.ascend) k (length rest) d low (omega (arith, long)) in
      let last : (get_or (rest ++ m ∷ []) (length rest) d) ≡ m = grind (arith, common_steps) in
      let place : m.place ≡ at = ap place_of (sym (last_pushed rest m)) ∙ (rw split at is) in
      rw (same k d low, last, place) at before;
}
  where
    long : length (rest ++ m ∷ []) ≡ length rest + 1
    long = length_push rest m

    same : (k : ℕ) (d : Mark) → k < length rest → get_or (rest ++ m ∷ []) k d ≡ get_or rest k d
    same k d low = grind (arith, common_steps)

-- ---- going back

-- an exchange leads where it leads by the same profile, where the same may be going on
goes_as : {profile other : Profile} {on before : Going} → other ≡ profile → before ≡ on → (e : Exchange) (s t : State) → Goes other before e s t → Goes profile on e s t
goes_as same still e s t goes = rw (same, still) at goes

pub back-start : (lasting : Lasting) (first : Tracked) (es : List Exchange) (end : State) (old : List State) → LeadsFrom lasting first es end
    → GoesBack lasting first.profile (left_through lasting first.profile first.going (take (length es) es)) (LeadsFrom lasting first (take (length es) es))
    (drop (length es) es) end old old end
back-start lasting first es end old leads = rw (take_all (length es) es (omega arith), drop_all (length es) es (omega arith))
    (record { from = leads; after = []; is_run = λ ended. tt; is_end = refl; put = sym (append-nil old) })

module _ (lasting : Lasting) {first before : Tracked} (es : List Exchange) (at : ℕ) (e : Exchange) (low : at < length es) (is : e ≡ get_or es at e)
    (follows : FollowsFrom lasting first (take at es) before) where
  one_more : take (at + 1) es ≡ take at es ++ e ∷ []
  one_more = take_more es at e low ∙ ap (λ (x : Exchange). take at es ++ x ∷ []) (sym is)

  -- what may be going on before the exchange, and what it leaves
  abbrev pub on : Going
  on = left_through lasting first.profile first.going (take at es)

  left : left_through lasting first.profile first.going (take (at + 1) es) ≡ left_on lasting first.profile e on
  left = rw one_more (left_more lasting first.profile first.going (take at es) e)

  -- a state to which the exchanges lead comes from one before the last of them
  pub step_from : (state : State) → LeadsFrom lasting first (take (at + 1) es) state
      → (s : State) × Possible before.states s × Goes before.profile before.going e s state
  step_from state leads =
      let l = (leads_joined lasting first.profile first.going (Possible first.states) (take at es) (e ∷ []) state).0 (rw one_more at leads) in
      (l.0, (follows.states l.0).1 l.1, goes_as (sym follows.profile) (sym follows.going) e l.0 state l.2)

  -- through one exchange more
  pub back-more : (end state earlier : State) (old mid new : List State)
      → GoesBack lasting first.profile (left_through lasting first.profile first.going (take (at + 1) es)) (LeadsFrom lasting first (take (at + 1) es))
      (drop (at + 1) es) end old mid state
      → Possible before.states earlier × Goes before.profile before.going e earlier state → new ≡ mid ++ state ∷ []
      → GoesBack lasting first.profile on (LeadsFrom lasting first (take at es)) (drop at es) end old new earlier
  back-more end state earlier old mid new g from put = rw split (record {
    from = (follows.states earlier).0 from.0;
    after = state ∷ g.after;
    is_run = λ ended. (goes_as follows.profile follows.going e earlier state from.1, rw (left ∙ ap (λ l. left_on l first.profile e on) ended) at (g.is_run ended));
    is_end = g.is_end;
    put = put ∙ ap (λ (l : List State). l ++ state ∷ []) g.put ∙ append_assoc old (reverse g.after) (state ∷ [])
        ∙ ap (λ (l : List State). old ++ l) (sym (reverse-append (state ∷ []) g.after));
  })
    where
      split : drop at es ≡ e ∷ drop (at + 1) es
      split = let next : suc at ≡ at + 1 = omega arith in cc (drop-cons es at e low)
