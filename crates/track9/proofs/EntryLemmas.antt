-- Single things that a tracker keeps: sets of modes, one bit at a time; a drift of pairs of goal and shown mode; and
-- what becomes of a set of entries, one entry at a time.
use Rattle.track9.proofs.Words.{all_has, and-true, either, has-and, nothing_has, way_of, Gives}
use Rattle.track9.proofs.Words.{[], agreeing, Allows, and_parts, any_mode, ap, arith, At, Becomes, BelowDay, bit_of, Bool}
use Rattle.track9.proofs.Words.{just_of, Rate, with_time, by_goal, Change, changed_entries, Clear, cond_both, contains-every_time, contains-insert_nat, contains-items_nat, contains-just, day}
use Rattle.track9.proofs.Words.{drifted_with, Entries, Entry, eqb-true, every_mode, every_time, false, false≢true, find_mode, goal_if_shown, goals_of, all_shown, halted}
use Rattle.track9.proofs.Words.{has, has-or, has_pair, if◌then◌else◌, image_from, image_to, inl, inr, is_mode, is_mode-same, is_nil, is_set, is_some, just_has}
use Rattle.track9.proofs.Words.{kept_goal, List, list_any, ltb-true, Mode, mode_self, mode_some, modes, ModeSet, nat_cmp, nat_cmp_total, nat_eq, nat_tests, Next}
use Rattle.track9.proofs.Words.{next_frame, no_entries, not, not-true, Option, or-false, or-true, or_assoc, or_cases, or_left, pairs_of, shown_if}
use Rattle.track9.proofs.Words.{PairReaches, Prev, prev_frame, read_given, Recall, refl, Reset, same_times, set_entries, SetAt, SetSomewhere}
use Rattle.track9.proofs.Words.{shown_with, some_entry, some_mode, some_pair, Stop, sym, Tells, time_of, given_reads, Times, true, true_from_ne_false, ℕ}
use Rattle.track9.proofs.Words.{◌&&◌, ◌<◌, ◌||◌, ◌↔◌, ◌∙◌, ◌∷◌, ◌≡◌, ◌⊎◌}
use Rattle.track9.specs.Working.Acting.{Acted, reach_of, way_by}
use Rattle.std.specs.FinSet as set

-- what is wanted of every mode is wanted of this one
pub has_every : (wanted : Mode → Bool) (m : Mode) → list_any (λ x. is_mode m x && wanted x) every_mode ≡ wanted m
has_every wanted m = grind arith

-- ---- pairs

-- the modes that are shown with a goal, of pairs that are given by goal
pub pair_by_goal : (f : Mode → ModeSet) (g m : Mode) → has_pair (by_goal f) g m ≡ has (f g).0 m
pair_by_goal f g m = grind arith

-- a mode may be shown where it is shown with some goal
goes_any : (p : List ModeSet) (m : Mode) → has (all_shown p).0 m ≡ list_any (λ g. has_pair p g m) every_mode
goes_any p m = simp (has-or, or_assoc, or-false)

-- each of these goals with each of these modes shown
pub pairs_have : (goals shown : ModeSet) (g m : Mode) → has_pair (pairs_of goals shown) g m ≡ (has goals.0 g && has shown.0 m)
pairs_have goals shown g m = grind (arith, pair_by_goal (shown_if goals shown) g m, nothing_has m)

pub goes_from : (p : List ModeSet) (m : Mode) → has (all_shown p).0 m ≡ true → (g : Mode) × (has_pair p g m ≡ true)
goes_from p m h = find_mode (λ g. has_pair p g m) every_mode (sym (goes_any p m) ∙ h)

pub goes_to : (p : List ModeSet) (g m : Mode) → has_pair p g m ≡ true → has (all_shown p).0 m ≡ true
goes_to p g m h = goes_any p m ∙ any_mode (λ g. has_pair p g m) g h

pub pairs_some : (p : List ModeSet) (g m : Mode) → has_pair p g m ≡ true → is_some (all_shown p) ≡ true
pairs_some p g m h = mode_some (all_shown p) m (goes_to p g m h)

if_has : (b : Bool) (f m : Mode) → has (if b then modes (bit_of f) else modes 0).0 m ≡ (is_mode m f && b)
if_has b f m = grind arith

-- a goal is one of all where some mode is shown with it
pub goals_has : (p : List ModeSet) (g : Mode) → has (goals_of p).0 g ≡ is_some (shown_with p g)
goals_has p g = goes_any (by_goal (goal_if_shown p)) g ∙ simp if_has (has_every (λ f. is_some (shown_with p f)) g)

-- ---- a drift

kept_has : (s reach : ModeSet) (m : Mode) → has (kept_goal s reach).0 m ≡ (has s.0 m || (is_some s && has reach.0 m))
kept_has s reach m = cond_both (is_some s) (either s reach) s (λ x. has x.0 m ≡ (has s.0 m || (is_some s && has reach.0 m)))
    (λ e. rw e (has-or s.0 reach.0 m)) (λ e. rw e (sym (or-false (has s.0 m))))

halted_has : (p : List ModeSet) (reach : ModeSet) (m : Mode) → has (halted p reach).0 m ≡ (some_pair p && has reach.0 m)
halted_has p reach m = grind (arith, nothing_has m)

-- a mode on the way to a goal, or one that may be going on
pub way_has : (acted : Acted) (g m : Mode) → has (way_by acted g).0 m ≡ (has (way_of acted.deck g).0 m || has acted.on.modes.0 m)
way_has acted g m = has-or (way_of acted.deck g).0 acted.on.modes.0 m

pub way_comes : (acted : Acted) (g m : Mode) → has (way_by acted g).0 m ≡ true → (has (way_of acted.deck g).0 m ≡ true) ⊎ (has acted.on.modes.0 m ≡ true)
way_comes acted g m h = or_cases _ _ (sym (way_has acted g m) ∙ h)

-- the goal itself is in its reach, and a mode on the way to it
pub reach_has : (acted : Acted) (g m : Mode) → has (reach_of acted g).0 m ≡ (is_mode m g || has (way_by acted g).0 m)
reach_has acted g m = grind (arith, has-and, all_has, and-true, has-or (bit_of g) (way_by acted g).0 m, just_has)

-- a mode may be shown with a goal after a drift: as before; where a mode was shown with it, itself or one of its way; or with STOP, STOP or
-- one of its way
drifted_by : (reach halt : ModeSet) (p : List ModeSet) (g m : Mode)
    → has (if is_mode g Stop then either (kept_goal (shown_with p g) reach) (halted p halt) else kept_goal (shown_with p g) reach).0 m
    ≡ ((has_pair p g m || (is_some (shown_with p g) && has reach.0 m)) || (is_mode g Stop && (some_pair p && has halt.0 m)))
drifted_by reach halt p g m = grind (arith, kept_has, halted_has, has-or, or-false)

pub drifted_has : (acted : Acted) (p : List ModeSet) (g m : Mode) → has (drifted_with acted p g).0 m
    ≡ ((has_pair p g m || (is_some (shown_with p g) && (is_mode m g || has (way_by acted g).0 m)))
    || (is_mode g Stop && (some_pair p && (is_mode m Stop || has (way_by acted Stop).0 m))))
drifted_has acted p g m = drifted_by (reach_of acted g) (reach_of acted Stop) p g m ∙ rw (reach_has acted g m, reach_has acted Stop m) refl

pub drifted_from : (acted : Acted) (p : List ModeSet) (g m : Mode) → has (drifted_with acted p g).0 m ≡ true
    → (f : Mode) × (n : Mode) × (has_pair p f n ≡ true) × PairReaches acted.deck acted.on f n g m
drifted_from acted p g m h = elim (or_cases _ _ (sym (drifted_has acted p g m) ∙ h)) [
  | inl kept ↦ elim (or_cases _ _ kept) [
    | inl same ↦ (g, m, same, inl (refl, inl refl))
    | inr moved ↦ let w = and_parts _ _ moved in let n = some_mode (shown_with p g) w.0 in
        (g, n.0, n.1, inl (refl, inr (elim (or_cases _ _ w.1) [ inl e ↦ inl (is_mode-same m g e) | inr e ↦ inr (way_comes acted g m e) ])))
  ]
  | inr stop ↦ let w = and_parts _ _ stop in let v = and_parts _ _ w.1 in let n = some_mode (all_shown p) v.0 in let f = goes_from p n.0 n.1 in
      (f.0, n.0, f.1, inr (is_mode-same g Stop w.0, elim (or_cases _ _ v.1) [ inl e ↦ inl (is_mode-same m Stop e) | inr e ↦ inr (way_comes acted Stop m e) ]))
]

pub drifted_to : (acted : Acted) (p : List ModeSet) (f n g m : Mode) → has_pair p f n ≡ true → PairReaches acted.deck acted.on f n g m
    → has (drifted_with acted p g).0 m ≡ true
drifted_to acted p f n g m h given = grind (arith, drifted_has, way_has, mode_some, mode_self, or-true, pairs_some)

pub in_day : (rate : Rate) (t : ℕ) → set.contains (every_time rate) t ≡ true → t < day rate
in_day rate t h = ltb-true t (day rate) (sym (contains-every_time rate t) ∙ h)

pub day_in : (rate : Rate) (t : ℕ) → t < day rate → set.contains (every_time rate) t ≡ true
day_in rate t h = contains-every_time rate t ∙ grind (arith, nat_tests)

pub from_empty : {P : Type 0} (t : ℕ) → set.contains {R = nat_cmp} set.empty t ≡ true → P
from_empty t h = absurd (false≢true (sym (set.contains-empty nat_cmp t) ∙ h))

-- one time of the day alone, and with others
pub just_is : (rate : Rate) (t f : ℕ) → set.contains (just_of rate t) f ≡ true → (t < day rate) × (f ≡ t)
just_is rate t f h = grind (arith, set.contains-empty nat_cmp, contains-just, nat_tests, eqb-true)

pub just_self : (rate : Rate) (t : ℕ) → t < day rate → set.contains (just_of rate t) t ≡ true
just_self rate t low = grind (arith, contains-just)

with_from : (rate : Rate) (s : Times) (u t : ℕ) → set.contains (with_time rate s u) t ≡ true → ((u < day rate) × (t ≡ u)) ⊎ (set.contains s t ≡ true)
with_from rate s u t h = grind (arith, or_cases, contains-insert_nat, eqb-true)

in_union : (s t : Times) (f : ℕ) → set.contains (set.union s t) f ≡ true → (set.contains s f ≡ true) ⊎ (set.contains t f ≡ true)
in_union s t f h = or_cases (set.contains s f) (set.contains t f) (sym (set.contains-union nat_cmp_total s t f) ∙ h)

-- where an entry came from that became one of these, or stayed where it may
pub entry_from : (may_stay : Bool) (c : Change) (es : Entries) (d e : Entry) → Allows es d → Allows (changed_entries may_stay c es) e
    → ((f : Entry) × Allows es f × Becomes es.rate c f e) ⊎ ((may_stay ≡ true) × Allows es e)
entry_from false (SetAt u) es d Clear a h = cc
entry_from b Recall es d Clear a h = inl (d, a, tt)
entry_from b Recall es d (At t) a h = inl (d, a, in_day es.rate t h)
entry_from b SetSomewhere es d (At t) a h = inl (d, a, (t, in_day es.rate t h, refl))
entry_from b Reset es d Clear a h = inl (d, a, refl)
entry_from false Reset es d (At t) a h = from_empty t h
entry_from false SetSomewhere es d Clear a h = cc
entry_from false (SetAt u) es d (At t) a h = let w = just_is es.rate u t h in inl (d, a, (w.0, ap At w.1))
entry_from false _ es d Clear a h = inl (Clear, h, refl)
entry_from false _ es d (At t) a h = let w = image_from _ es.times t h in inl (At w.0, w.1, ap At w.2)
entry_from true (SetAt u) es d (At t) a h = elim (with_from es.rate es.times u t h) [ inl w ↦ inl (d, a, (w.0, ap At w.1)) | inr e ↦ inr (refl, e) ]
entry_from true Next es d (At t) a h = elim (in_union es.times _ t h)
    [ inl e ↦ inr (refl, e) | inr e ↦ let w = image_from (next_frame es.rate) es.times t e in inl (At w.0, w.1, ap At w.2) ]
entry_from true Prev es d (At t) a h = elim (in_union es.times _ t h)
    [ inl e ↦ inr (refl, e) | inr e ↦ let w = image_from (prev_frame es.rate) es.times t e in inl (At w.0, w.1, ap At w.2) ]
entry_from true _ es d e a h = inr (refl, h)

-- where an entry goes to
pub entry_to : (may_stay : Bool) (c : Change) (es : Entries) (d e : Entry) → Allows es d → Becomes es.rate c d e → Allows (changed_entries may_stay c es) e
entry_to may_stay c es Clear e a w = grind (arith, just_self, day_in, contains-insert_nat)
entry_to may_stay c es (At t) e a w = let next = image_to (next_frame es.rate) es.times t a in let prev = image_to (prev_frame es.rate) es.times t a in
    grind (arith, just_self, day_in, contains-insert_nat, next, prev, set.contains-union nat_cmp_total)

-- where it may stay it does, since the times are times of the day
pub entry_stays : (may_stay : Bool) (c : Change) (es : Entries) (e : Entry) → may_stay ≡ true → BelowDay es.rate es.times → Allows es e
    → Allows (changed_entries may_stay c es) e
entry_stays may_stay c es e stays below a = grind (arith, contains-insert_nat, day_in, set.contains-union nat_cmp_total)

-- ---- entries that agree with a reply

-- exactly the entries that give this time
pub gives_exactly : (time : Option ℕ) (es : Entries) (e : Entry) → Allows (agreeing time es) e ↔ (Allows es e × Gives es.rate time e)
gives_exactly time es e = grind (arith, set.contains-empty nat_cmp, just_is, just_self)

-- an entry gives the time that the bytes are exactly where it tells them
pub tells_gives : (rate : Rate) (bytes : List ℕ) (e : Entry) → Gives rate (time_of rate bytes) e ↔ Tells rate e bytes
tells_gives rate bytes e = grind (arith, read_given, given_reads)

-- exactly the entries that are Set, or are Clear
pub set_exactly : (b : Bool) (es : Entries) (e : Entry) → Allows (set_entries b es) e ↔ (Allows es e × (is_set e ≡ b))
set_exactly b es e = grind (arith, set.contains-empty nat_cmp)

-- ---- whether there is an entry

pub there_time : (s : Times) → is_nil (set.items s) ≡ false → (f : ℕ) × (set.contains s f ≡ true)
there_time s = by (set.items s) refl
  where
    by : (xs : List ℕ) → set.items s ≡ xs → is_nil xs ≡ false → (f : ℕ) × (set.contains s f ≡ true)
    by [] e some = cc
    by (x ∷ xs) e some = (x, contains-items_nat s x ∙ ap (list_any (λ y. nat_eq y x)) e ∙ or_left (nat_eq x x) _ (grind (arith, nat_tests)))

pub nil_empty : (s : Times) → is_nil (set.items s) ≡ true → s ≡ set.empty
nil_empty s h = same_times s set.empty (λ f. grind (arith, contains-items_nat s f, set.contains-empty nat_cmp f))

-- there is an entry exactly where one is allowed
pub allowed_some : (es : Entries) (e : Entry) → Allows es e → some_entry es ≡ true
allowed_some es e h = grind (arith, nil_empty, set.contains-empty nat_cmp)

pub some_allowed : (es : Entries) → some_entry es ≡ true → (e : Entry) × Allows es e
some_allowed es h = elim (or_cases es.may_clear _ h) [ inl clear ↦ (Clear, clear) | inr some ↦ let w = there_time es.times (not-true _ some) in (At w.0, w.1) ]

pub nothing_allowed : (es : Entries) → some_entry es ≡ false → (e : Entry) → Allows es e → ⊥
nothing_allowed es none e a = false≢true (sym none ∙ allowed_some es e a)

-- nothing is in no entries
pub empty_nil : is_nil (set.items {R = nat_cmp} set.empty) ≡ true
empty_nil = true_from_ne_false _ (λ e. let w = there_time set.empty e in from_empty w.0 w.1)

pub no_entry : (rate : Rate) → some_entry (no_entries rate) ≡ false
no_entry rate = ap not empty_nil
