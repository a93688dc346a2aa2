-- What is known of modes, of facts and of a register; and what a tracker keeps, remains and counts.
use Rattle.track9.proofs.Words.{Allows, ap, AreFew, AreTimes, AreWhole, arith, At, begin_count-empty, Bool, Clear, contains-just, Deed, counts_after, if◌then◌else◌}
use Rattle.track9.proofs.Words.{contains-remove_nat, contains-retain_nat, count_of, either, Entries, entries_of, Entry, entry_of, eqb-true, false, false_from_ne_true, false≢true, Follows}
use Rattle.track9.proofs.Words.{Profile, profile_of, Rate, states_rate, states_goals, goals_of, all_shown, has, has-or, has_pair, in_local, inl, InPart, inr, part_remains, is_nil, remains_with_panel_on}
use Rattle.track9.proofs.Words.{is_some, AreTracked, IsKnown, IsKnownEntry, IsSpanCount, IsTrue, join_options, joined, just, Known, known_fact, KnownEntry, KnowsModes}
use Rattle.track9.proofs.Words.{KnowsOf, List, max, max-zero, Mode, mode_some, ModeSet, nat_cmp, nat_tests, None, on_halves, Option, part_of, PartKnows, Part}
use Rattle.track9.proofs.Words.{Possible, Presets, refl, Register, same_test, same_times, states_shown, shown_with, Some, some_entry, some_mode, states_remain}
use Rattle.track9.proofs.Words.{halves_remain, span_count, span_count-begin_count, State, States, subst, sym, Times, true, halves_of, HalvesKnow, Halves, HalvesWhole}
use Rattle.track9.proofs.Words.{Whole, with_entry, ℕ, ◌+◌, ◌||◌, ◌↔◌, ◌∙◌, ◌≡◌, ◌≢◌, ◌≤◌, ◌⊎◌}
use Rattle.std.specs.FinSet as set
use Rattle.deck9.specs.declared.knowledge.KnownEntry.TheVariants as entry
use Rattle.deck9.specs.declared.going.Going.{Going}
use Rattle.track9.proofs.EntryLemmas.{allowed_some, goals_has, goes_from, goes_to, nil_empty, nothing_allowed, some_allowed, there_time}
use Rattle.track9.proofs.PanelLemmas.{panel_off}
use Rattle.track9.proofs.PartLemmas.{a_state, any_way, impossible, in_pairs, live_some, part_whole, possible, put, put_in, put_same, some_live, some_way, state_live}

-- ---- all goals, all shown modes

pub goal_to : (p : List ModeSet) (g m : Mode) → has_pair p g m ≡ true → has (goals_of p).0 g ≡ true
goal_to p g m h = goals_has p g ∙ mode_some (shown_with p g) m h

-- the modes of all parts
abbrev all_of : (List ModeSet → ModeSet) → States → ModeSet
all_of f v = either (either (f (part_of v false false).pairs) (f (part_of v true false).pairs))
    (either (f (part_of v false true).pairs) (f (part_of v true true).pairs))

-- they are those of some part
some_part : (f : List ModeSet → ModeSet) (v : States) (m : Mode) → has (all_of f v).0 m ≡ true ↔ ((l pn : Bool) × (has (f (part_of v l pn).pairs).0 m ≡ true))
some_part f v m =
    let x : Bool → Bool → Bool = λ l pn. has (f (part_of v l pn).pairs).0 m in
    let same : has (all_of f v).0 m ≡ ((x false false || x true false) || (x false true || x true true)) = simp has-or in (
      λ h. let pn = some_way (λ pn. x false pn || x true pn) (sym same ∙ h) in let l = some_way (λ l. x l pn.0) pn.1 in (l.0, pn.0, l.1),
      λ (l, pn, h). same ∙ any_way (λ pn. x false pn || x true pn) pn (any_way (λ l. x l pn) l h),
    )

-- a pair of a part is one of a state
pair_state : (v : States) (l pn : Bool) (g m : Mode) → AreWhole (states_rate v) v → has_pair (part_of v l pn).pairs g m ≡ true
    → (s : State) × Possible v s × (s.goal ≡ g) × (s.shown ≡ m)
pair_state v l pn g m whole pair =
    let p = part_of v l pn in
    let w = a_state (states_rate v) p l pn (part_whole (states_rate v) v whole l pn) (mode_some (all_shown p.pairs) m (goes_to p.pairs g m pair)) in
    let s : State = record w.0 { goal = g; shown = m } in (s, possible v s l pn w.2 w.3 (in_pairs p p.pairs w.0 g m w.1.registers pair), refl, refl)

-- the set has exactly the modes that the states have
pub record HasModes (X : State → Type 0) (field : State → Mode) (set : ModeSet) : Type 0 where
  pub there : (s : State) → X s → has set.0 (field s) ≡ true
  pub back : (m : Mode) → has set.0 m ≡ true → (s : State) × X s × (field s ≡ m)

-- goals, or shown modes
has_modes : (pick : Mode → Mode → Mode) (f : List ModeSet → ModeSet) (v : States)
    → ((p : List ModeSet) (n : Mode) → has (f p).0 n ≡ true ↔ ((g m : Mode) × (has_pair p g m ≡ true) × (pick g m ≡ n)))
    → AreWhole (states_rate v) v → HasModes (Possible v) (λ (s : State). pick s.goal s.shown) (all_of f v)
has_modes pick f v exactly whole = record {
  there = λ s i. let p = part_of v s.local s.panel in
      (some_part f v _).1 (s.local, s.panel, (exactly p.pairs _).1 (s.goal, s.shown, (impossible v s s.local s.panel refl refl i).pair, refl));
  back = λ n h.
      let a = (some_part f v n).0 h in let p = (exactly (part_of v a.0 a.1).pairs n).0 a.2 in
      let w = pair_state v a.0 a.1 p.0 p.1 whole p.2 in (w.0, w.1, rw (w.2, w.3) p.3);
}

pub has_goals : (v : States) → AreWhole (states_rate v) v → HasModes (Possible v) (λ (s : State). s.goal) (states_goals v)
has_goals v = has_modes (λ g m. g) goals_of v
    (λ p n. (λ h. let m = some_mode (shown_with p n) (sym (goals_has p n) ∙ h) in (n, m.0, m.1, refl), λ (g, m, pair, e). rw (← e) (goal_to p g m pair)))

pub has_shown : (v : States) → AreWhole (states_rate v) v → HasModes (Possible v) (λ (s : State). s.shown) (states_shown v)
has_shown v = has_modes (λ g m. m) all_shown v (λ p n. (λ h. let g = goes_from p n h in (g.0, n, g.1, refl), λ (g, m, pair, e). rw (← e) (goes_to p g m pair)))

pub modes_some : (v : States) (field : State → Mode) (set : ModeSet) → HasModes (Possible v) field set → AreWhole (states_rate v) v → states_remain v ≡ true → is_some set ≡ true
modes_some v field set h whole live = let w = live_some (states_rate v) v whole live in mode_some set (field w.0) (h.there w.0 w.1)

-- what is known of a mode of all states, by the set of these modes
pub modes_known : (X : State → Type 0) (field : State → Mode) (set : ModeSet) (k : Known Mode) → HasModes X field set → KnowsModes set k → IsKnown X field k
modes_known X field set k has h = grind arith

-- ---- facts

-- what is known of a fact of all states, by whether there is one where it is false and one where it is true
fact_known : (X : State → Type 0) (field : State → Bool) (is_there : Bool → Bool) → ((s : State) → X s → is_there (field s) ≡ true)
    → ((b : Bool) → is_there b ≡ true → (s : State) × X s × (field s ≡ b)) → ((s : State) × X s)
    → IsKnown X field (known_fact (is_there false) (is_there true))
fact_known X field is_there there back some = grind arith

-- the part of a state is live
live_part : (v : States) (s : State) → Possible v s → part_remains (part_of v s.local s.panel) ≡ true
live_part v s i = state_live (part_of v s.local s.panel) s (impossible v s s.local s.panel refl refl i)

live_state : (v : States) (l pn : Bool) → AreWhole (states_rate v) v → part_remains (part_of v l pn) ≡ true → (s : State) × Possible v s × (s.local ≡ l) × (s.panel ≡ pn)
live_state v l pn whole live = let w = a_state (states_rate v) (part_of v l pn) l pn (part_whole (states_rate v) v whole l pn) live in (w.0, possible v w.0 l pn w.2 w.3 w.1, w.2, w.3)

pub local_known : (v : States) → AreWhole (states_rate v) v → states_remain v ≡ true
    → IsKnown (Possible v) (λ (s : State). s.local) (known_fact (part_remains (part_of v false false) || part_remains (part_of v false true))
    (part_remains (part_of v true false) || part_remains (part_of v true true)))
local_known v whole live = fact_known (Possible v) (λ (s : State). s.local) (λ l. part_remains (part_of v l false) || part_remains (part_of v l true))
    (λ s i. any_way (λ pn. part_remains (part_of v s.local pn)) s.panel (live_part v s i))
    (λ l h. let pn = some_way (λ pn. part_remains (part_of v l pn)) h in let w = live_state v l pn.0 whole pn.1 in (w.0, w.1, w.2)) (live_some (states_rate v) v whole live)

pub panel_known : (v : States) → AreWhole (states_rate v) v → states_remain v ≡ true
    → IsKnown (Possible v) (λ (s : State). s.panel) (known_fact (halves_remain v.off) (remains_with_panel_on v))
panel_known v whole live = fact_known (Possible v) (λ (s : State). s.panel) (λ pn. halves_remain (halves_of v pn))
    (λ s i. any_way (λ l. part_remains (part_of v l s.panel)) s.local (live_part v s i))
    (λ pn h. let l = some_way (λ l. part_remains (part_of v l pn)) h in let w = live_state v l.0 pn whole l.1 in (w.0, w.1, w.3)) (live_some (states_rate v) v whole live)

-- ---- one set of entries

-- no time: all are Clear
pub knows_clear : (es : Entries) → es.times ≡ set.empty → KnowsOf (Allows es) entry.Clear
knows_clear es none e a = grind (arith, set.contains-empty nat_cmp)

-- one time and not Clear
pub knows_at : (es : Entries) (t : ℕ) → es.may_clear ≡ false → es.times ≡ just t → KnowsOf (Allows es) (entry.At t)
knows_at es t clear one = grind (arith, false≢true, eqb-true, contains-just)

-- ---- a time beside another

only_one : (s : Times) (a : ℕ) → set.contains s a ≡ true → is_nil (set.items (set.remove s a)) ≡ true → s ≡ just a
only_one s a there none = same_times s (just a) (λ f. grind (arith, nat_tests, nil_empty (set.remove s a) none, set.contains-empty nat_cmp, contains-just, contains-remove_nat s a f))

second : (s : Times) (a : ℕ) → set.contains s a ≡ true → (s ≡ just a → ⊥) → (b : ℕ) × (set.contains s b ≡ true) × (a ≢ b)
second s a there other = let w = there_time (set.remove s a) (false_from_ne_true _ (λ none. other (only_one s a there none))) in
    (w.0, grind (arith, contains-remove_nat s a w.0, w.1), λ e. grind (arith, contains-remove_nat s a w.0, w.1, nat_tests))

-- not Clear, and not one time alone
pub knows_set : (es : Entries) → es.may_clear ≡ false → some_entry es ≡ true → ((t : ℕ) → es.times ≡ just t → ⊥) → KnowsOf (Allows es) entry.SetSomewhere
knows_set es clear some not_one = (λ e a. grind arith, two (some_allowed es some))
  where
    two : (e : Entry) × Allows es e → (d e : Entry) × Allows es d × Allows es e × (d ≢ e)
    two (Clear, a) = absurd (false≢true (sym clear ∙ a))
    two (At t, a) = let w = second es.times t a (not_one t) in (At t, At w.0, a, w.1, λ e. w.2 (cc))

-- Clear, or a time
pub knows_nothing : (es : Entries) → es.may_clear ≡ true → (es.times ≡ set.empty → ⊥) → KnowsOf (Allows es) entry.Unknown
knows_nothing es clear some = (clear, let w = there_time es.times (false_from_ne_true _ (λ none. some (nil_empty es.times none))) in (At w.0, w.1, refl))

-- ---- two sets

-- the entries of either
abbrev Either : (Bool → Entry → Type 0) → Entry → Type 0
Either E e = (b : Bool) × E b e

-- what is known of entries, of which there may be none
Knows : (Entry → Type 0) → Option KnownEntry → Type 0
Knows E None = (e : Entry) → E e → ⊥
Knows E (Some k) = ((e : Entry) × E e) × KnowsOf E k

knows_either : (E : Bool → Entry → Type 0) (a b : Option KnownEntry) → Knows (E false) a → Knows (E true) b → Knows (Either E) (join_options a b)
unfolding Knows
knows_either E None None h k = λ e (b, x). (elim b as (λ b. E b e → ⊥) [ false ↦ h e | true ↦ k e ]) x
knows_either E None (Some l) h k = ((k.0.0, (true, k.0.1)), grind (arith, h, k.1))
knows_either E (Some l) None h k = ((h.0.0, (false, h.0.1)), grind (arith, k, h.1))
knows_either E (Some m) (Some l) h k = ((h.0.0, (false, h.0.1)), grind (arith, h, k))

-- ---- all parts

part_knows : (rate : Rate) (p : Part) (r : Register) (o : Option KnownEntry) → Whole rate p → PartKnows p r o → Knows (Allows (entries_of r p)) o
unfolding Knows
part_knows rate p r None whole dead = nothing_allowed (entries_of r p) ((whole r).0 ∙ dead)
part_knows rate p r (Some k) whole h = (some_allowed (entries_of r p) ((whole r).0 ∙ h.0), h.1)

-- the entries of a register in either part
abbrev InEither : Halves → Register → Entry → Type 0
InEither h r = Either (λ l. Allows (entries_of r (in_local h l)))

halves_know : (rate : Rate) (h : Halves) (r : Register) (o : Option KnownEntry) → HalvesWhole rate h → HalvesKnow h r o → Knows (InEither h r) o
halves_know rate h r o whole (a, b, remote, local, e) =
    subst (Knows (InEither h r)) (sym e) (knows_either (λ l. Allows (entries_of r (in_local h l))) a b (part_knows rate h.remote r a whole.remote remote)
    (part_knows rate h.local r b whole.local local))

-- an entry of a part is one of a state
pub part_of_entry : (v : States) (r : Register) (l pn : Bool) (e : Entry) → AreWhole (states_rate v) v → Allows (entries_of r (part_of v l pn)) e
    → (s : State) × Possible v s × (s.local ≡ l) × (s.panel ≡ pn) × (entry_of r s ≡ e)
part_of_entry v r l pn e all a =
    let p = part_of v l pn in
    let whole = part_whole (states_rate v) v all l pn in
    let w = a_state (states_rate v) p l pn whole (sym (whole r).0 ∙ allowed_some (entries_of r p) e a) in
    let at = put r e w.0 in
    let inside : InPart p (with_entry r e w.0) = subst (λ q. InPart q (with_entry r e w.0)) (put_same r p) (put_in r (entries_of r p) p e w.0 w.1 a) in
    (with_entry r e w.0, possible v (with_entry r e w.0) l pn (at.local ∙ w.2) (at.panel ∙ w.3) inside, at.local ∙ w.2, at.panel ∙ w.3, at.entry)

-- what is known of the entries of states is known of the states
known_of : (X : State → Type 0) (r : Register) (E : Entry → Type 0) (k : KnownEntry) → ((s : State) → X s → E (entry_of r s))
    → ((e : Entry) → E e → (s : State) × X s × (entry_of r s ≡ e)) → KnowsOf E k → IsKnownEntry X r k
known_of X r E k there back h = grind arith

pub entry_known : (v : States) (r : Register) (off on all : Option KnownEntry) (k : KnownEntry) → AreWhole (states_rate v) v → HalvesKnow (halves_of v false) r off
    → HalvesKnow (halves_of v true) r on → all ≡ join_options off on → all ≡ Some k
    → IsKnownEntry (Possible v) r k
unfolding Knows
entry_known v r off on all k whole h i joined found =
    let E : Bool → Entry → Type 0 = λ pn. InEither (halves_of v pn) r in
    known_of (Possible v) r (Either E) k (λ s i. (s.panel, (s.local, (impossible v s s.local s.panel refl refl i).registers r)))
    (λ e (pn, (l, a)). let w = part_of_entry v r l pn e whole a in (w.0, w.1, w.4))
    (subst (Knows (Either E)) (sym joined ∙ found) (knows_either E off on (halves_know (states_rate v) v.off r off whole.off h) (halves_know (states_rate v) (on_halves (states_rate v) v.on) r on whole.on i))).1

-- ---- whether a state remains

pub remains_where : (v : States) → AreWhole (states_rate v) v → IsTrue (states_remain v) ↔ ((s : State) × Possible v s)
remains_where v whole = (λ h. live_some (states_rate v) v whole h, λ w. some_live v w.0 w.1)

-- ---- after an exchange

dead_few : (n : Presets) (v : States) → AreWhole (states_rate v) v → states_remain v ≡ false → AreFew n v
dead_few n v whole dead pn l r = let none = nil_empty (entries_of r (part_of v l pn)).times in
    grind (arith, none, part_whole (states_rate v) v whole l pn r, begin_count-empty (entries_of r (part_of v l pn)).rate, live_state v l pn whole, some_live v, dead)

pub whole_at_rate : (p : Profile) (w : States) → profile_of p.deck w ≡ p → AreWhole p.rate w → AreWhole (states_rate w) w
whole_at_rate p w same whole = subst (λ rate. AreWhole rate w) (sym (ap (λ (p : Profile). p.rate) same)) whole

-- what a state is kept of where one was kept before
pub tracked_next : (d : Deed) (v w : States) (p : Profile) (on : Going) (n : Presets) → AreTracked n v → Follows p on d v w → AreTracked (counts_after d n) w
tracked_next d v w p on n kept follows = record { whole = whole_at_rate p w follows.profile follows.whole; few = follows.few n kept.few }

pub tracked_after : (d : Deed) (v w : States) (p : Profile) (on : Going) (n : Presets) → AreTracked n v → Follows p on d v w
    → AreTracked (if states_remain w then counts_after d n else n) w
tracked_after d v w p on n kept follows = grind (arith, whole_at_rate, dead_few)

-- ---- spans

abbrev pub spans_in : States → Register → Bool → Bool → ℕ
spans_in v r l pn = span_count (entries_of r (part_of v l pn)).times

abbrev pub most_spans : States → Register → ℕ
most_spans v r = max (max (spans_in v r false false) (spans_in v r true false)) (max (spans_in v r false true) (spans_in v r true true))

-- the times of a register in a part are those of its states
are_times : (v : States) (r : Register) (l pn : Bool) → AreWhole (states_rate v) v → AreTimes (Possible v) r l pn (entries_of r (part_of v l pn)).times
are_times v r l pn whole t = grind (arith, part_of_entry, impossible)

-- the greatest of four
is_one : (f : Bool → Bool → ℕ) (n : ℕ) → n ≡ max (max (f false false) (f true false)) (max (f false true) (f true true)) → (l pn : Bool) × (f l pn ≡ n)
is_one f n e = let w : ((f false false ≡ n) ⊎ (f true false ≡ n)) ⊎ ((f false true ≡ n) ⊎ (f true true ≡ n)) = grind arith in
    elim w [ inl (inl p) ↦ (false, false, p) | inl (inr p) ↦ (true, false, p) | inr (inl p) ↦ (false, true, p) | inr (inr p) ↦ (true, true, p) ]

pub span_count_is : (v : States) (r : Register) (n : ℕ) → AreWhole (states_rate v) v → n ≡ most_spans v r → IsSpanCount (Possible v) r n
span_count_is v r n whole e = record {
  most = λ l pn times h. subst (λ s. span_count s ≤ n) (let here = are_times v r l pn whole in
      same_times _ times (λ t. same_test _ _ (λ x. (h t).1 ((here t).0 x)) (λ x. (here t).1 ((h t).0 x)))) (grind arith);
  met = let w = is_one (spans_in v r) n e in (w.0, w.1, (entries_of r (part_of v w.0 w.1)).times, are_times v r w.0 w.1 whole, w.2);
}

none_left : (p : ℕ → Bool) → set.len (set.retain (set.empty {R = nat_cmp}) p) ≡ 0
none_left p = let same = same_times (set.retain set.empty p) set.empty (λ f. grind (arith, contains-retain_nat set.empty p f, set.contains-empty nat_cmp f)) in
    ap (λ (s : Times). set.len s) same ∙ set.len-empty nat_cmp

span_none : span_count set.empty ≡ 0
unfolding span_count
span_none = none_left _

-- where there is nothing with the panel on
pub spans_off : (h : Halves) (r : Register) → max (span_count (entries_of r h.remote).times) (span_count (entries_of r h.local).times)
    ≡ most_spans (panel_off h) r
spans_off h r = grind (arith, max-zero, span_none)

pub spans_few : (v : States) (r : Register) (n : ℕ) (m : Presets) → AreFew m v → n ≡ most_spans v r → n ≤ count_of r m + 2
spans_few v r n m few e =
    let each : (l pn : Bool) → spans_in v r l pn ≤ count_of r m + 2 =
    λ l pn. omega (arith, span_count-begin_count (entries_of r (part_of v l pn)).rate (entries_of r (part_of v l pn)).times, few pn l r) in
    omega (arith, each false false, each true false, each false true, each true true)
