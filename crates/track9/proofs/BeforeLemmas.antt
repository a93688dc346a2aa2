-- Some state of a set, and a state that an exchange leads to another one from: patterns of states, exactly those that
-- an effect led from, drifts to them, and complete exchanges.
use Rattle.track9.proofs.Words.{Agrees, Allows, AreBelow, AreWhole, At, Becomes, Block, Bool, Change, Clear, ComesTo, ComesToShow, Command, Deck}
use Rattle.track9.proofs.Words.{DeckStep, Does, DoesOrIgnores, Drift, Effect, Entries, Entry, Exchange, Fits, Forgets, Forgotten, Goes, Hands}
use Rattle.track9.proofs.Words.{HasState, IfNone, IfSome, InHalves, InPart, Is, IsEntry, IsIgnored, IsPattern, IsState, KeepsPanel, LeadsTo, List}
use Rattle.track9.proofs.Words.{Mode, ModeSet, Next, None, Option, PairRunsTo, Part, Pattern, Possible, Prev, Profile, Rate, Recall, RegAudioIn}
use Rattle.track9.proofs.Words.{RegAudioOut, RegIn, RegOut, Register, Reset, RunsTo, Sense, SetAt, SetSomewhere, Shows, Some, State, States, Stop}
use Rattle.track9.proofs.Words.{all_has, all_shown, and_from, and_parts, any_goal, any_panel, ap, arith, both, cond_both, day, done}
use Rattle.track9.proofs.Words.{drift_from_pairs, drifted, drifted_with, effect_of, entries_of, entry_before, entry_of, false, false≢true}
use Rattle.track9.proofs.Words.{forgotten_before, forgotten_with, goals_of, halves_of, hands_of, has, has-and, has_pair, head_of, if◌then◌else◌}
use Rattle.track9.proofs.Words.{ignored, in_local, inl, inr, is_as_wanted, is_mode, is_mode-same, is_nak, is_own, is_some, just_mode, just_state}
use Rattle.track9.proofs.Words.{masked, mode_just, mode_some, moved_entry, nat_lt, nat_tests, next_frame, no_entries, no_states, on_halves, option_map}
use Rattle.track9.proofs.Words.{panel_before, panel_switched, pattern_before, prev_frame, profile_of, states_rate, refl, refused, remains_with_panel_on}
use Rattle.track9.proofs.Words.{rules, sense_of, shown_with, some_entry, some_mode, some_pair, subst, sym, true, true_from_ne_false}
use Rattle.track9.proofs.Words.{wanted_before, wanted_of, way, with_entry, with_wanted, ◌<◌, ◌&&◌, ◌||◌, ◌↔◌, ◌∙◌, ◌≡◌, ◌⊎◌}
use Rattle.deck9.specs.declared.deck.Forgotten.TheVariants as forgotten
use Rattle.deck9.specs.declared.effect.Effect.TheVariants as effect
use Rattle.deck9.specs.declared.sense.Sense.TheVariants as sense
use Rattle.deck9.specs.declared.state.Hands.TheVariants as hands
use Rattle.std.specs.FinSet as set
use Rattle.track9.specs.Working.Pattern.{any_tape}
use Rattle.deck9.proofs.EffectLemmas.{does_valid}
use Rattle.deck9.specs.Deck.{named_beside, unless_sensed}
use Rattle.tc25.proofs.DayLemmas.{some_day}
use Rattle.deck9.proofs.RestLemmas.{step_valid}
use Rattle.track9.proofs.EffectLemmas.{masked_has}
use Rattle.deck9.specs.declared.going.Going.{Going}
use Rattle.track9.specs.Working.Acting.{Acted, reach_of, way_by}
use Rattle.track9.proofs.Words.{pairs_from_drift, StaysOrLost}
use Rattle.track9.proofs.EntryLemmas.{way_comes, reach_has, drifted_has, drifted_to, goals_has, goes_from, no_entry, pair_by_goal}
use Rattle.track9.proofs.KnownLemmas.{goal_to}
use Rattle.track9.proofs.PartLemmas.{drift_panel, drift_state, each_register, possible_state, put, put_each, to_halves, halves_live}
use Rattle.track9.proofs.Words.{or_cases}
use Rattle.track9.specs.Working.Pattern.{wanted_from}

-- ---- states by their fields

same_state : (s t : State) → t.goal ≡ s.goal → t.shown ≡ s.shown → t.ins ≡ s.ins → t.outs ≡ s.outs → t.ains ≡ s.ains → t.aouts ≡ s.aouts → t.local ≡ s.local
    → t.panel ≡ s.panel → s ≡ t
same_state s t goal shown ins outs ains aouts local panel = grind arith

-- the state itself fits, and no other
pub fits_self : (t : State) → Fits (just_state t) t
fits_self t = search (rules, mode_just)

pub fits_just : (t d : State) → Fits (just_state t) d → t ≡ d
fits_just t d f = same_state t d (just_mode t.goal d.goal f.goal) (just_mode t.shown d.shown f.shown) f.ins f.outs f.ains f.aouts f.local f.panel

-- ---- one entry

-- an entry is the one that is wanted, or one of any
abbrev IsBefore : Option (Option Entry) → Entry → Type 0
IsBefore None e = ⊥
IsBefore (Some o) e = Is o e

-- an entry that was is wanted exactly where it can become the new one
becomes_exactly : (rate : Rate) (c : Change) (old new : Entry) → IsEntry rate old → IsEntry rate new → IsBefore (entry_before rate c new) old ↔ Becomes rate c old new
becomes_exactly rate c old new was is = grind arith

-- an entry of the day that is wanted comes of it
abbrev MakesEntry : Rate → Change → Option Entry → Entry → Type 0
MakesEntry rate c w old = (e : Entry) × IsEntry rate e × Is w e × Becomes rate c old e

makes_exactly : (rate : Rate) (c : Change) (w : Option Entry) (old : Entry) → IsEntry rate old → ((e : Entry) × IsEntry rate e × Is w e)
    → IsBefore (wanted_before rate c w) old ↔ MakesEntry rate c w old
makes_exactly rate c (Some new) old was (e, valid, same) = let exactly = becomes_exactly rate c old new was (subst (IsEntry rate) same valid) in (
  λ b. (new, subst (IsEntry rate) same valid, refl, exactly.0 b),
  λ (x, v, at, b). exactly.1 (subst (Becomes rate c old) at b),
)
makes_exactly rate SetSomewhere None old was there = (λ b. (At 0, some_day rate, tt, (0, some_day rate, refl)), λ m. tt)
makes_exactly rate (SetAt t) None old was there = cond_both (nat_lt t (day rate)) (Some None) None (λ o. IsBefore o old ↔ MakesEntry rate (SetAt t) None old)
    (λ low. let below : t < day rate = grind (arith, nat_tests, low) in (λ b. (At t, below, tt, (below, refl)), λ m. tt))
    (λ high. (λ b. absurd b, λ (e, v, i, (below, same)). grind (arith, nat_tests, high, below)))
makes_exactly rate Next None old was there = (λ b. (moved_entry (next_frame rate) old, grind arith, tt, refl), λ m. tt)
makes_exactly rate Prev None old was there = (λ b. (moved_entry (prev_frame rate) old, grind arith, tt, refl), λ m. tt)
makes_exactly rate Reset None old was there = (λ b. (Clear, tt, tt, refl), λ m. tt)
makes_exactly rate Recall None old was there = (λ b. (old, was, tt, was), λ m. tt)

-- there is one that was, where there can be
entry_was : (rate : Rate) (c : Change) (w : Option Entry) → ((e : Entry) × IsEntry rate e × Is w e)
    → IfSome (wanted_before rate c w) (λ o. (x : Entry) × IsEntry rate x × Is o x)
entry_was rate c w h = grind arith

-- ---- what an effect may have led from

abbrev pub FitsSome : Option Pattern → State → Type 0
FitsSome None d = ⊥
FitsSome (Some a) d = Fits a d

-- the effect leads to a state of the day that is wanted
abbrev pub Makes : Profile → Effect → Pattern → State → Type 0
Makes p e a d = (t : State) × IsState p.rate t × Fits a t × Does p e d t

-- ---- the same state but for some fields

-- other modes and switches
day_again : (rate : Rate) (d : State) (g m : Mode) (l pn : Bool) → IsState rate d → IsState rate (record d { goal = g; shown = m; local = l; panel = pn })
day_again rate d g m l pn valid = each_register _ (valid RegIn) (valid RegOut) (valid RegAudioIn) (valid RegAudioOut)

-- the registers of another state
day_of : (rate : Rate) (w d : State) → IsState rate w → IsState rate (record d { ins = w.ins; outs = w.outs; ains = w.ains; aouts = w.aouts })
day_of rate w d valid = each_register _ (valid RegIn) (valid RegOut) (valid RegAudioIn) (valid RegAudioOut)

-- another goal
goal_fits : (a : Pattern) (d t : State) → t ≡ record d { goal = t.goal } → Fits a t → Fits (any_goal a) d
goal_fits a d t same f = grind (arith, all_has)

fits_goal : (a : Pattern) (d : State) (g : Mode) → has a.goals.0 g ≡ true → Fits (any_goal a) d → Fits a (record d { goal = g })
fits_goal a d g there f = grind arith

-- another entry in a register
entry_wanted : (r : Register) (a : Pattern) (d : State) → Fits a d → Is (wanted_of r a) (entry_of r d)
entry_wanted r a d f = each_register (λ r. Is (wanted_of r a) (entry_of r d)) f.ins f.outs f.ains f.aouts r

entry_asked : (r : Register) (o : Option Entry) (a : Pattern) (d : State) → Fits (with_wanted r o a) d → Is o (entry_of r d)
entry_asked r o a d f = grind arith

fits_entry : (r : Register) (o : Option Entry) (a : Pattern) (e : Entry) (d : State) → Is (wanted_of r a) e → Fits (with_wanted r o a) d → Fits a (with_entry r e d)
fits_entry r o a e d there f = grind arith

entry_fits : (r : Register) (o : Option Entry) (a : Pattern) (e : Entry) (d : State) → Is o (entry_of r d) → Fits a (with_entry r e d) → Fits (with_wanted r o a) d
entry_fits r o a e d there f = grind arith

day_entry : (rate : Rate) (r : Register) (e : Entry) (d : State) → IsState rate d → IsEntry rate e → IsState rate (with_entry r e d)
day_entry rate r e d valid new = put_each (λ q es. IsEntry rate) r (no_entries rate) (no_states rate) e d valid new

pub as_wanted : (o : Option Bool) (b : Bool) → (is_as_wanted o b ≡ true) ↔ Is o b
as_wanted o b = grind arith

-- ---- which states are wanted

change_exactly : (p : Profile) (r : Register) (c : Change) (a : Pattern) (d : State) (o : Option (Option Entry)) → IsState p.rate d
    → (IsBefore o (entry_of r d) ↔ MakesEntry p.rate c (wanted_of r a) (entry_of r d))
    → FitsSome (option_map (λ o. with_wanted r o a) o) d ↔ Makes p (effect.Change r c) a d
change_exactly p r c a d None valid exactly = (
  λ f. absurd f,
  λ (t, day, f, (e, b, same)). let at : entry_of r t ≡ e = ap (entry_of r) same ∙ (put r e d).entry in
      absurd (exactly.1 (e, subst (IsEntry p.rate) at (day r), subst (Is (wanted_of r a)) at (entry_wanted r a t f), b)),
)
change_exactly p r c a d (Some o) valid exactly = (
  λ f. let (e, new, there, b) = exactly.0 (entry_asked r o a d f) in
      (with_entry r e d, day_entry p.rate r e d valid new, fits_entry r o a e d there f, (e, b, refl)),
  λ (t, day, f, (e, b, same)). let at : entry_of r t ≡ e = ap (entry_of r) same ∙ (put r e d).entry in
      entry_fits r o a e d (exactly.1 (e, subst (IsEntry p.rate) at (day r), subst (Is (wanted_of r a)) at (entry_wanted r a t f), b)) (subst (Fits a) same f),
)

-- what is forgotten
pub forgotten_exactly : (p : Profile) (g : Forgotten) (a : Pattern) (d : State) → IsPattern p.rate a → IsState p.rate d
    → Fits (forgotten_before p.hands g a) d ↔ Makes p (effect.Forget g) a d
forgotten_exactly p forgotten.Nothing a d wanted valid = (λ f. (d, valid, f, refl), λ (t, day, f, same). subst (Fits a) same f)
forgotten_exactly p forgotten.Motion a d (w, there, fits) valid = (
  λ f. (record d { goal = w.goal; shown = w.shown }, day_again p.rate d w.goal w.shown d.local d.panel valid, grind arith, refl),
  λ (t, day, f, same). grind (arith, all_has),
)
forgotten_exactly p forgotten.Registers a d (w, there, fits) valid = (
  λ f. (record d { ins = w.ins; outs = w.outs; ains = w.ains; aouts = w.aouts }, day_of p.rate w d there, grind arith, (day_of p.rate w d there, refl, refl, refl, refl)),
  λ (t, day, f, (again, goal, shown, local, panel)). grind arith,
)
forgotten_exactly p forgotten.Tape a d (w, there, fits) valid =
    let day = day_again p.rate w w.goal w.shown d.local d.panel there in (
      λ f. (record w { local = d.local; panel = d.panel }, day, grind arith, (day, refl, refl)),
      λ (t, day, f, (again, local, panel)). grind (arith, all_has),
    )
forgotten_exactly p forgotten.Everything a d (w, there, fits) valid = by p.hands
  where
    by : (h : Hands) → Fits (any_panel h (record (any_tape a) { local = None })) d ↔ ((t : State) × IsState p.rate t × Fits a t × (IsState p.rate t × KeepsPanel h d t))
    by hands.None = let day = day_again p.rate w w.goal w.shown w.local d.panel there in (
      λ f. (record w { panel = d.panel }, day, grind arith, (day, refl)),
      λ (t, day, f, (again, panel)). grind (arith, all_has),
    )
    by hands.Allowed = (λ f. (w, there, fits, (there, tt)), λ (t, day, f, (again, free)). grind (arith, all_has))

-- a state is one of the pattern exactly where the effect leads from it to a state that is wanted
wanted_exactly : (p : Profile) (e : Effect) (a : Pattern) (d : State) → IsPattern p.rate a → IsState p.rate d
    → FitsSome (pattern_before p.rate p.hands e a) d ↔ Makes p e a d
wanted_exactly p effect.Nothing a d wanted valid = (λ f. (d, valid, f, refl), λ (t, day, f, same). subst (Fits a) same f)
wanted_exactly p (effect.Go g) a d wanted valid = cond_both (has a.goals.0 g) (Some (any_goal a)) None (λ o. FitsSome o d ↔ Makes p (effect.Go g) a d)
    (λ there. (
      λ f. (record d { goal = g }, day_again p.rate d g d.shown d.local d.panel valid, fits_goal a d g there f, refl),
      λ (t, day, f, same). goal_fits a d t (rw same refl) f,
    ))
    (λ gone. (λ f. absurd f, λ (t, day, f, same). absurd (false≢true (sym gone ∙ (rw same at f.goal)))))
wanted_exactly p (effect.KeepOr goals) a d wanted valid = cond_both (is_some (both goals a.goals)) (any_goal a) a (λ b. Fits b d ↔ Makes p (effect.KeepOr goals) a d)
    (λ some. (
      λ f. let (g, both_have) = some_mode (both goals a.goals) some in let (one, other) = and_parts _ _ (sym (has-and goals.0 a.goals.0 g) ∙ both_have) in
          (record d { goal = g }, day_again p.rate d g d.shown d.local d.panel valid, fits_goal a d g other f, inr (one, refl)),
      λ (t, day, f, does). elim does [ inl same ↦ goal_fits a d t (rw same refl) f | inr (goes, same) ↦ goal_fits a d t same f ],
    ))
    (λ none. (
      λ f. (d, valid, f, inl refl),
      λ (t, day, f, does). elim does [
        | inl same ↦ subst (Fits a) same f
        | inr (goes, same) ↦ absurd (false≢true (sym none ∙ mode_some (both goals a.goals) t.goal (has-and goals.0 a.goals.0 t.goal ∙ and_from _ _ goes f.goal)))
      ],
    ))
wanted_exactly p (effect.Change r c) a d (w, there, fits) valid = change_exactly p r c a d (wanted_before p.rate c (wanted_of r a)) valid
    (makes_exactly p.rate c (wanted_of r a) (entry_of r d) (valid r) (entry_of r w, there r, entry_wanted r a w fits))
wanted_exactly p (effect.Panel on) a d wanted valid = by p.hands
  where
    by : (h : Hands) → FitsSome (panel_before h on a) d ↔ ((t : State) × IsState p.rate t × Fits a t × (t ≡ panel_switched h on d))
    by hands.None = (λ f. (d, valid, f, refl), λ (t, day, f, same). subst (Fits a) same f)
    by hands.Allowed = cond_both (is_as_wanted a.panel on) (Some (record a { panel = None })) None
        (λ o. FitsSome o d ↔ ((t : State) × IsState p.rate t × Fits a t × (t ≡ record d { panel = on })))
        (λ there. let is = (as_wanted a.panel on).0 there in (
          λ f. (record d { panel = on }, day_again p.rate d d.goal d.shown d.local on valid, grind arith, refl),
          λ (t, day, f, same). grind arith,
        ))
        (λ gone. (λ f. absurd f, λ (t, day, f, same). absurd (false≢true (sym gone ∙ (as_wanted a.panel on).1 (rw same at f.panel)))))
wanted_exactly p (effect.Forget g) a d wanted valid = forgotten_exactly p g a d wanted valid

-- a state of the day is among them
pub forgotten_state : (rate : Rate) (h : Hands) (g : Forgotten) (a : Pattern) → IsPattern rate a → IsPattern rate (forgotten_before h g a)
forgotten_state rate h g a (w, there, fits) = (w, there, fits_more h g)
  where
    fits_more : (h : Hands) (g : Forgotten) → Fits (forgotten_before h g a) w
    fits_more h g = grind (arith, all_has)

pub wanted_state : (p : Profile) (e : Effect) (a : Pattern) → IsPattern p.rate a → IfSome (pattern_before p.rate p.hands e a) (IsPattern p.rate)
wanted_state p effect.Nothing a wanted = wanted
wanted_state p (effect.Go g) a (w, there, fits) = cond_both (has a.goals.0 g) (Some (any_goal a)) None (λ o. IfSome o (IsPattern p.rate))
    (λ e. (w, there, goal_fits a w w refl fits)) (λ e. tt)
wanted_state p (effect.KeepOr goals) a (w, there, fits) = cond_both (is_some (both goals a.goals)) (any_goal a) a (IsPattern p.rate)
    (λ e. (w, there, goal_fits a w w refl fits)) (λ e. (w, there, fits))
wanted_state p (effect.Change r c) a (w, there, fits) =
    by (wanted_before p.rate c (wanted_of r a)) (entry_was p.rate c (wanted_of r a) (entry_of r w, there r, entry_wanted r a w fits))
  where
    by : (o : Option (Option Entry)) → IfSome o (λ o. (x : Entry) × IsEntry p.rate x × Is o x) → IfSome (option_map (λ o. with_wanted r o a) o) (IsPattern p.rate)
    by None h = tt
    by (Some o) (x, new, is) = let at = put r x w in
        (with_entry r x w, day_entry p.rate r x w there new, entry_fits r o a (entry_of r w) (with_entry r x w) (rw at.entry is) (subst (Fits a) (sym at.again) fits))
wanted_state p (effect.Panel on) a (w, there, fits) = by p.hands
  where
    by : (h : Hands) → IfSome (panel_before h on a) (IsPattern p.rate)
    by hands.None = (w, there, fits)
    by hands.Allowed = cond_both (is_as_wanted a.panel on) (Some (record a { panel = None })) None (λ o. IfSome o (IsPattern p.rate)) (λ e. (w, there, grind arith)) (λ e. tt)
wanted_state p (effect.Forget g) a wanted = forgotten_state p.rate p.hands g a wanted

-- one in LOCAL is, where one may be
pub local_state : (rate : Rate) (a : Pattern) → Is a.local true → IsPattern rate a → IsPattern rate (record a { local = Some true })
local_state rate a is (w, there, fits) = (record w { local = true }, day_again rate w w.goal w.shown true w.panel there, grind arith)

-- ---- some state of a set

-- where there is a pair there is a goal
pub some_goal : (p : List ModeSet) → some_pair p ≡ true → is_some (goals_of p) ≡ true
some_goal p h = let m = some_mode (all_shown p) h in let g = goes_from p m.0 m.1 in mode_some (goals_of p) g.0 (goal_to p g.0 m.0 g.1)

-- and a mode that is shown with it
pub some_shown : (p : List ModeSet) (g : Mode) → has (goals_of p).0 g ≡ true → is_some (shown_with p g) ≡ true
some_shown p g h = sym (goals_has p g) ∙ h

-- entries without a time are Clear
pub clear_alone : (es : Entries) → some_entry es ≡ true → es.times ≡ set.empty → es.may_clear ≡ true
clear_alone es some none = true_from_ne_false _ (λ e. let dead : some_entry es ≡ false = rw (e, none) (no_entry es.rate) in false≢true (sym dead ∙ some))

pub if_none : {A : Type 0} {P Q : Type 0} (o : Option A) → IfNone o P → (P → Q) → IfNone o Q
if_none o h f = grind arith

-- ---- pairs

-- what was reached with no pair of its goal is what a deck shows that has come to a halt
pub source_halted : (acted : Acted) (p : List ModeSet) (g m : Mode) → has (drifted_with acted p g).0 m ≡ true → has (shown_with p g).0 m ≡ false
    → ((is_some (shown_with p g) ≡ false) ⊎ (has (reach_of acted g).0 m ≡ false)) → (g ≡ Stop) × ComesToShow acted.deck acted.on Stop m
source_halted acted p g m h other way = elim (or_cases _ _ (sym (drifted_has acted p g m) ∙ h)) [
  | inl kept ↦ absurd (never kept)
  | inr stop ↦ let w = and_parts _ _ stop in let v = and_parts _ _ w.1 in
      (is_mode-same g Stop w.0, elim (or_cases _ _ v.1) [ inl e ↦ inl (is_mode-same m Stop e) | inr e ↦ inr (way_comes acted Stop m e) ])
]
  where
    never : (has_pair p g m || (is_some (shown_with p g) && (is_mode m g || has (way_by acted g).0 m))) ≡ true → ⊥
    never kept = elim (or_cases _ _ kept) [
      | inl same ↦ false≢true (sym other ∙ same)
      | inr moved ↦ let w = and_parts _ _ moved in elim way [ inl none ↦ false≢true (sym none ∙ w.0) | inr none ↦ false≢true (sym none ∙ reach_has acted g m ∙ w.1) ]
    ]

-- the pairs that are wanted among those that are reached

pub reached_parts : (acted : Acted) (shown : ModeSet) (p : List ModeSet) (g m : Mode) → has_pair (masked shown (drifted acted p)) g m ≡ true
    → (has (drifted_with acted p g).0 m ≡ true) × (has shown.0 m ≡ true)
reached_parts acted shown p g m h =
    let w = and_parts (has_pair (drifted acted p) g m) (has shown.0 m) (sym (masked_has shown (drifted acted p) g m) ∙ h) in
    (sym (pair_by_goal (drifted_with acted p) g m) ∙ w.0, w.1)

pub origin_there : (acted : Acted) (p : List ModeSet) (goals shown : ModeSet) → ((f n : Mode) × (has_pair p f n ≡ true) × PairRunsTo acted goals shown f n)
    → is_some (both (goals_of (masked shown (drifted acted p))) goals) ≡ true
origin_there acted p goals shown (f, n, pair, (g, m, goal, mode, reaches)) =
    let there = masked_has shown (drifted acted p) g m ∙ and_from _ _ (pair_by_goal (drifted_with acted p) g m ∙ drifted_to acted p f n g m pair reaches) mode in
    let found = goal_to (masked shown (drifted acted p)) g m there in
    mode_some (both (goals_of (masked shown (drifted acted p))) goals) g (has-and (goals_of (masked shown (drifted acted p))).0 goals.0 g ∙ and_from _ _ found goal)

-- ---- a part

pub if_none_so : {A P : Type 0} (o : Option A) → P → IfNone o P
if_none_so o h = grind arith

wanted_before_loss : (on : Going) (r : Register) (w : Option Entry) (e f : Entry) → StaysOrLost on r e f → Is w f → Is (wanted_from on.lost r w) e
wanted_before_loss on r w e f stays is = grind arith

-- what a register holds after a drift that leads to what is wanted of it
abbrev pub entry_after : Option Entry → Entry → Entry
entry_after None e = e
entry_after (Some f) e = f

pub comes_to_wanted : (on : Going) (r : Register) (w : Option Entry) (e : Entry) → Is (wanted_from on.lost r w) e → StaysOrLost on r e (entry_after w e) × Is w (entry_after w e)
comes_to_wanted on r w e is = grind arith

pub no_entry_runs : (acted : Acted) (r : Register) (p : Part) (a : Pattern) (l pn : Bool)
    → (((e : Entry) × Allows (entries_of r p) e × Is (wanted_from acted.on.lost r (wanted_of r a)) e) → ⊥) → ((s : State) × HasState p l pn s × RunsTo acted a s) → ⊥
no_entry_runs acted r p a l pn none (s, there, (d, kept, reaches, fits)) = none (
  entry_of r s,
  there.inside.registers r,
  wanted_before_loss acted.on r (wanted_of r a) (entry_of r s) (entry_of r d) (kept.registers r)
      (each_register (λ r. Is (wanted_of r a) (entry_of r d)) fits.ins fits.outs fits.ains fits.aouts r),
)

-- ---- a set of states

-- where there is a state with the panel on hands are allowed
pub panel_hands : (v : States) (s : State) → InPart (in_local (on_halves (states_rate v) v.on) s.local) s → hands_of v ≡ hands.Allowed
panel_hands v s i = grind arith

-- a hand makes any state with the panel on
pub hand_leads : (p : Profile) (on : Going) (a : Pattern) (s : State) → p.hands ≡ hands.Allowed → IsPattern p.rate a → Is a.panel true → s.panel ≡ true → LeadsTo p on a s
hand_leads p on a s allowed (d, valid, fits) wanted switched =
    let e : State = record d { panel = true } in
    let there : IsState p.rate e = each_register _ (valid RegIn) (valid RegOut) (valid RegAudioIn) (valid RegAudioOut) in
    (e, drift_from_pairs p on s e (inr (allowed, switched, refl, there)), search)

pub no_origin : (p : Profile) (on : Going) (v : States) (a : Pattern) → (Is a.panel true → remains_with_panel_on v ≡ false)
    → (((s : State) × InHalves false v.off s × RunsTo (record { deck = p.deck; on = on }) a s) → ⊥) → ((s : State) × Possible v s × LeadsTo p on a s) → ⊥
no_origin p on v a dead off (s, there, (d, drift, fits)) = by s.panel refl
  where
    by : (pn : Bool) → s.panel ≡ pn → ⊥
    by true e = false≢true (sym (dead (subst (Is a.panel) (drift_panel p on s d drift ∙ e) fits.panel)) ∙ halves_live (halves_of v true) s (to_halves v s true e there).1)
    by false e = elim (pairs_from_drift p on s d drift) [
      | inl w ↦ off (s, to_halves v s false e there, (d, w.0, w.1, fits))
      | inr w ↦ false≢true (sym e ∙ w.1)
    ]

-- ---- steps

-- a reply that agrees with the state before agrees with the one after, and the other way round
shows_same : (deck : Option Deck) (p : Profile) (c : Command) (reply : Block) (d t : State) → Does p (effect_of deck c) d t → Shows p.rate d c reply ↔ Shows p.rate t c reply
shows_same deck p c reply d t does = grind arith

-- ---- complete exchanges

-- an exchange leads from states of the day to such states
pub goes_state : (p : Profile) (on : Going) (e : Exchange) (s t : State) → IsState p.rate s → Goes p on e s t → IsState p.rate t
goes_state p on e s t valid (u, (d, drift, step), forgets) =
    does_valid p (effect.Forget (forgotten_with p.deck e)) u t (step_valid p e d u (drift_state p on s d valid drift) step) forgets

-- a drift leads from the state to one of a pattern, if there is a pattern
abbrev pub LeadsSome : Profile → Going → Option Pattern → State → Type 0
LeadsSome p on o s = (d : State) × Drift p on s d × FitsSome o d

-- the command was ignored, or had its effect
comes_exactly : (p : Profile) (on : Going) (c : Command) (a : Pattern) (s : State) → IsPattern p.rate a → IsState p.rate s
    → ComesTo p on c a s ↔ ((IsIgnored c a × LeadsTo p on (record a { local = Some true }) s) ⊎ LeadsSome p on (pattern_before p.rate p.hands (effect_of p.deck c) a) s)
comes_exactly p on c a s wanted valid = (
  λ (d, t, drift, day, does, f). elim does [
    | inl does ↦ inr (d, drift, (wanted_exactly p (effect_of p.deck c) a d wanted (drift_state p on s d valid drift)).1 (t, day, f, does))
    | inr (may, local, same) ↦ let fits = subst (Fits a) same f in inl ((may, subst (Is a.local) local fits.local), (d, drift, grind arith))
  ],
  λ w. elim w [
    | inl ((may, is), (d, drift, f)) ↦ (d, d, drift, drift_state p on s d valid drift, inr (may, f.local, refl), grind arith)
    | inr (d, drift, f) ↦ let (t, day, fits, does) = (wanted_exactly p (effect_of p.deck c) a d wanted (drift_state p on s d valid drift)).0 f in
        (d, t, drift, day, inl does, fits)
  ],
)

pub step_exactly : {rate : Rate} {h : Hands} {e : Effect} {o : Option Pattern} (acted : Acted) (v : States) (c : Command) (a : Pattern)
    → AreWhole (states_rate v) v → AreBelow v → IsPattern (states_rate v) a
    → rate ≡ states_rate v → h ≡ hands_of v → e ≡ effect_of acted.deck c → o ≡ pattern_before rate h e a → (s : State) → Possible v s
    → ComesTo (profile_of acted.deck v) acted.on c a s ↔ ((IsIgnored c a × LeadsTo (profile_of acted.deck v) acted.on (record a { local = Some true }) s) ⊎ LeadsSome (profile_of acted.deck v) acted.on o s)
step_exactly {o = o} acted v c a whole below wanted rate allowed effect is s there =
    subst (λ o. ComesTo (profile_of acted.deck v) acted.on c a s ↔ ((IsIgnored c a × LeadsTo (profile_of acted.deck v) acted.on (record a { local = Some true }) s) ⊎ LeadsSome (profile_of acted.deck v) acted.on o s))
    found (comes_exactly (profile_of acted.deck v) acted.on c a s wanted (possible_state (states_rate v) v s whole below there))
  where
    found : pattern_before (states_rate v) (hands_of v) (effect_of acted.deck c) a ≡ o
    found = rw (← rate, ← allowed, ← effect) (sym is)

-- the states from which forgetting leads to this one
between_exactly : (p : Profile) (g : Forgotten) (u t : State) → IsState p.rate u → IsState p.rate t → Fits (forgotten_before p.hands g (just_state t)) u ↔ Forgets p g u t
between_exactly p g u t was is = let exactly = forgotten_exactly p g (just_state t) u (t, is, fits_self t) was in (
  λ f. let (x, day, fits, forgets) = exactly.0 f in subst (Forgets p g u) (sym (fits_just t x fits)) forgets,
  λ forgets. exactly.1 (t, is, fits_self t, forgets),
)

-- what is forgotten besides is nothing that the reply shows
forgets_agree : (p : Profile) (k : Sense) (own nak : Bool) (g : Forgotten) (reply : Block) (u t : State) → Forgets p (if nak then forgotten.Nothing else unless_sensed k g) u t
    → Agrees p.rate (if own then k else sense.Nothing) u reply ↔ Agrees p.rate (if own then k else sense.Nothing) t reply
forgets_agree p sense.Nothing true nak g reply u t forgets = (λ x. x, λ x. x)
forgets_agree p sense.Nothing false nak g reply u t forgets = (λ x. x, λ x. x)
forgets_agree p (sense.Register r) own true g reply u t forgets = rw forgets (λ x. x, λ x. x)
forgets_agree p (sense.Register r) own false g reply u t forgets = rw forgets (λ x. x, λ x. x)
forgets_agree p (sense.Status asked) own true g reply u t forgets = rw forgets (λ x. x, λ x. x)
forgets_agree p (sense.Status asked) own false g reply u t forgets = rw forgets (λ x. x, λ x. x)

forgets_shows : (p : Profile) (e : Exchange) (u t : State) → Forgets p (forgotten_with p.deck e) u t → Shows p.rate u e.command e.reply ↔ Shows p.rate t e.command e.reply
forgets_shows p e u t forgets =
    forgets_agree p (sense_of e.command) (is_own e.command e.reply) (is_nak e.reply) (named_beside p.deck (head_of e.block)) e.reply u t forgets

-- an exchange that got a NAK is a drift
pub nak_exactly : (p : Profile) (on : Going) (e : Exchange) (s t : State) → is_nak e.reply ≡ true → LeadsTo p on (just_state t) s ↔ Goes p on e s t
nak_exactly p on e s t nak = (
  λ (d, drift, fits). (t, (d, drift, refused nak (fits_just t d fits)), rw none refl),
  λ (u, (d, drift, step), forgets). let same : t ≡ u = rw none at forgets in elim step [
    | refused was e ↦ (d, drift, subst (λ t. Fits (just_state t) d) (sym (same ∙ e)) (fits_self d))
    | done was shows does ↦ absurd (false≢true (sym was ∙ nak))
    | ignored was shows may local e ↦ absurd (false≢true (sym was ∙ nak))
  ],
)
  where
    none : forgotten_with p.deck e ≡ forgotten.Nothing
    none = rw nak refl

-- with no NAK the reply agrees with the state after, and forgetting leads there from one that the command led to
pub goes_exactly : (p : Profile) (on : Going) (e : Exchange) (s t : State) → is_nak e.reply ≡ false → IsState p.rate s → IsState p.rate t
    → Goes p on e s t ↔ (Shows p.rate t e.command e.reply × ComesTo p on e.command (forgotten_before p.hands (forgotten_with p.deck e) (just_state t)) s)
goes_exactly p on e s t nak was is = (λ (u, (d, drift, step), forgets). there u d drift step forgets, λ (shows, (d, u, drift, day, does, fits)). back shows d u drift day does fits)
  where
    g : Forgotten
    g = forgotten_with p.deck e

    there : (u d : State) → Drift p on s d → DeckStep p e.command e.reply d u → Forgets p g u t
        → Shows p.rate t e.command e.reply × ComesTo p on e.command (forgotten_before p.hands g (just_state t)) s
    there u d drift (refused nak_too same) forgets = absurd (false≢true (sym nak ∙ nak_too))
    there u d drift (done not_nak shows does) forgets =
        let day = does_valid p (effect_of p.deck e.command) d u (drift_state p on s d was drift) does in (
          (forgets_shows p e u t forgets).0 ((shows_same p.deck p e.command e.reply d u does).0 shows),
          (d, u, drift, day, inl does, (between_exactly p g u t day is).1 forgets),
        )
    there u d drift (ignored not_nak shows may local same) forgets =
        let day = subst (IsState p.rate) (sym same) (drift_state p on s d was drift) in (
          (forgets_shows p e u t forgets).0 (rw same shows),
          (d, u, drift, day, inr (may, local, same), (between_exactly p g u t day is).1 forgets),
        )

    back : Shows p.rate t e.command e.reply → (d u : State) → Drift p on s d → IsState p.rate u → DoesOrIgnores p e.command d u
        → Fits (forgotten_before p.hands g (just_state t)) u → Goes p on e s t
    back shows d u drift day does fits =
        let forgets = (between_exactly p g u t day is).0 fits in let shown = (forgets_shows p e u t forgets).1 shows in (
          u,
          (
            d,
            drift,
            elim does [
              | inl does ↦ done nak ((shows_same p.deck p e.command e.reply d u does).1 shown) does
              | inr (may, local, same) ↦ ignored nak (rw (← same) shown) may local same
            ],
          ),
          forgets,
        )
