-- What becomes of the states of a part, and so what leads from all states with one value of the panel to others: each
-- effect, and complete exchanges where nobody touches the panel.
use Rattle.track9.proofs.Words.{all_has, all_pairs, Deck, Everything, Forgets, Forgotten, halves_forgotten, modes, Motion, motion_forgotten, Nothing, Profile, Registers, registers_forgotten, Tape, IsState, Gives, Deed, Acts, counts_after, DoesOrStays}
use Rattle.track9.proofs.Words.{agreeing, all_forgotten, all_or_none, all_states, Allows, and_from, and_parts, ap, AreSet, Becomes, Bool}
use Rattle.track9.proofs.Words.{both, Change, changed_entries, changed_part, cond_both, counted, Does, DoesOrStays, Drift, drifted}
use Rattle.track9.proofs.Words.{drifted_part, drifted_with, Effect, Entries, entries_of, entry_of, false, false≢true, forgotten_part, all_shown, gone}
use Rattle.track9.proofs.Words.{either, gone_pairs, gone_part, kept_or_gone, kept_or_gone_part, pairs_of, has, has-and, has-or, has_pair, HasEffect, if◌then◌else◌, IfSome, in_local, inl, InPart}
use Rattle.track9.proofs.Words.{inr, InHalves, is_as_wanted, part_remains, is_mode, is_mode-same, LeadsOn, List, map_halves, masked, masked_part, Mode, mode_self, ModeSet}
use Rattle.track9.proofs.Words.{no_states, None, Option, or-true, or_cases, Part, Presets, put_settled}
use Rattle.track9.proofs.Words.{refl, RegAudioIn, RegAudioOut, RegIn, Register, RegistersSet, RegOut, reported_part, sensed_part, set_where, settled}
use Rattle.track9.proofs.Words.{shown_with, ShowsStatus, Some, some_entry, some_mode, some_pair, halves_remain, State, Status, status_part, subst, sym, TakenQuietly, true}
use Rattle.track9.proofs.Words.{halves_changed, halves_drifted, halves_kept_or_gone, halves_sensed, halves_status, HalvesBelow, HalvesFew, Halves, HalvesWhole, where_remains, Whole, with_entries, with_entry}
use Rattle.track9.proofs.Words.{Rate, halves_rate, part_rate, untouched, with_pairs, ℕ, ◌&&◌, ◌||◌, ◌↔◌, ◌∙◌, ◌≡◌, ◌⊎◌}
use Rattle.track9.specs.Working.Acting.{Acted, quiet}
use Rattle.deck9.specs.declared.effect.Effect.TheVariants as effect
use Rattle.track9.specs.declared.deed.Deed.TheVariants as deed
use Rattle.deck9.proofs.EffectLemmas.{does_valid}
use Rattle.track9.proofs.EntryLemmas.{allowed_some, drifted_from, drifted_to, entry_from, entry_stays, entry_to, goes_from, goes_to, pair_by_goal, pairs_have, pairs_some}
use Rattle.track9.proofs.EntryLemmas.{set_exactly, some_allowed, gives_exactly}
use Rattle.track9.proofs.PartLemmas.{a_state, all_exactly, any_entries, Below, drift_below, drift_some, drift_whole, each_register, few_agreeing, few_all_states, state_is}
use Rattle.track9.proofs.PartLemmas.{few_changed_part, few_counted, few_no_states, few_pairs, few_put, few_set, few_settled, few_halves, FewIn, in_none, in_pairs, mechanics, mechanics_drift}
use Rattle.track9.proofs.PartLemmas.{not_live, pairs_registers, put, put_in, read_put, settled_exactly, take_out, halves_live, halves_state, whole_all, whole_drift, whole_in}
use Rattle.track9.proofs.PartLemmas.{all_drifted_pairs, drifted_all, each_put, of_rate, OfRate, PartBelow, whole_rate, whole_none, whole_pairs, whole_put, whole_settled, whole_halves}
use Rattle.std.proofs.Common.{arith}

-- ---- part by part

-- a step leads from the states of a part exactly to those of another part, which may depend on their local
pub record PartLeads (rate : Rate) (Goes : State → State → Type 0) (count : Presets → Presets) (p : Part) (q : Bool → Part) : Type 0 where
  pub from : (t : State) → InPart (q t.local) t → (s : State) × InPart p s × (s.local ≡ t.local) × (s.panel ≡ t.panel) × Goes s t
  pub to : (s t : State) → InPart p s → Goes s t → InPart (q s.local) t
  pub whole : (l : Bool) → Whole rate (q l)
  pub few : (l : Bool) (n : Presets) → FewIn n p → FewIn (count n) (q l)

-- a step leaves local and panel as they are
pub record Keeps (Goes : State → State → Type 0) : Type 0 where
  pub local : (s t : State) → Goes s t → t.local ≡ s.local
  pub panel : (s t : State) → Goes s t → t.panel ≡ s.panel

mapped : (f : Bool → Part → Part) (h : Halves) (l : Bool) → in_local (map_halves f h) l ≡ f l (in_local h l)
mapped f h l = grind arith

leads_by : (rate : Rate) (Goes : State → State → Type 0) (count : Presets → Presets) → Keeps Goes → (f : Bool → Part → Part) (h : Halves)
    → ((l : Bool) → PartLeads rate Goes count (in_local h l) (λ b. f b (in_local h l)))
    → LeadsOn rate Goes count h (map_halves f h)
leads_by rate Goes count keeps f h each = record {
  reached = λ pn. (
    λ t i. let a = (each t.local).from t (subst (λ q. InPart q t) (mapped f h t.local) i.1) in
        (a.0, (a.3 ∙ i.0, subst (λ b. InPart (in_local h b) a.0) (sym a.2) a.1), a.4),
    λ s t i goes. (
      keeps.panel s t goes ∙ i.0,
      subst (λ b. InPart (in_local (map_halves f h) b) t) (sym (keeps.local s t goes))
          (rw (mapped f h s.local) ((each s.local).to s t i.1 goes)),
    ),
  );
  whole = record { remote = (each false).whole false; local = (each true).whole true };
  few = λ n few l. subst (FewIn (count n)) (sym (mapped f h l)) ((each l).few l n (few l));
}

-- a part that has no states stays
pub leads : (rate : Rate) (Goes : State → State → Type 0) (count : Presets → Presets) → Keeps Goes → (f : Bool → Part → Part) (h : Halves) → HalvesWhole rate h
    → ((l : Bool) (n : Presets) → FewIn n (in_local h l) → FewIn (count n) (in_local h l))
    → ((l : Bool) → part_remains (in_local h l) ≡ true → PartLeads rate Goes count (in_local h l) (λ b. f b (in_local h l)))
    → LeadsOn rate Goes count h (map_halves (λ l. where_remains (f l)) h)
leads rate Goes count keeps f h whole few each = leads_by rate Goes count keeps (λ l. where_remains (f l)) h (λ l. by l (part_remains (in_local h l)) refl)
  where
    by : (l b : Bool) → part_remains (in_local h l) ≡ b → PartLeads rate Goes count (in_local h l) (λ k. if b then f k (in_local h l) else in_local h l)
    by l true live = each l live
    by l false dead = record {
      from = λ t i. not_live _ t dead i;
      to = λ s t i goes. not_live _ s dead i;
      whole = λ k. whole_in rate h whole l;
      few = λ k n. few l n;
    }

-- what is read leaves the states of which it is true
reads : (rate : Rate) (P : State → Type 0) (f : Bool → Part → Part) (h : Halves) → HalvesWhole rate h → ((p : Part) (t : State) → OfRate rate p → InPart (f t.local p) t ↔ (InPart p t × P t))
    → ((l : Bool) (p : Part) → OfRate rate p → Whole rate (f l p)) → ((l : Bool) (n : Presets) (p : Part) → FewIn n p → FewIn n (f l p))
    → LeadsOn rate (λ s t. P s × (t ≡ s)) (λ n. n) h (map_halves (λ l. where_remains (f l)) h)
reads rate P f h whole exactly wholes few = leads rate (λ s t. P s × (t ≡ s)) (λ n. n) (record { local = λ s t d. rw d.1; panel = λ s t d. rw d.1 }) f h whole
    (λ l n h. h) (λ l live. let p = in_local h l in let same = of_rate rate p (whole_in rate h whole l) in record {
      from = λ t i. let w = (exactly p t same).0 i in (t, w.0, refl, refl, (w.1, refl));
      to = λ s t i d. subst (InPart (f s.local p)) (sym d.1) ((exactly p s same).1 (i, d.0));
      whole = λ b. wholes b p same;
      few = λ b n h. few b n p h;
    })

-- ---- a drift

pub drift_leads : (acted : Acted) (rate : Rate) (h : Halves) → HalvesWhole rate h → LeadsOn rate (Drift (untouched acted.deck rate) (quiet acted.on)) (λ n. n) h (halves_drifted acted h)
drift_leads acted rate h whole = leads_by rate (Drift (untouched acted.deck rate) (quiet acted.on)) (λ n. n) (record { local = λ s t d. rw (mechanics acted rate s t d).0; panel = λ s t d. rw (mechanics acted rate s t d).0 })
    (λ l. drifted_part acted) h (λ l. let p = in_local h l in record {
      from = λ t i.
          let w = drifted_from acted p.pairs t.goal t.shown (sym (pair_by_goal (drifted_with acted p.pairs) t.goal t.shown) ∙ i.pair) in
          let s : State = record t { goal = w.0; shown = w.1 } in (
            s,
            in_pairs p p.pairs t w.0 w.1 (pairs_registers p (drifted acted p.pairs) t i) w.2,
            refl,
            refl,
            mechanics_drift acted rate t w.0 w.1 w.3,
          );
      to = λ s t i d. let m = mechanics acted rate s t d in
          subst (InPart (drifted_part acted p)) (sym m.0)
          (in_pairs p (drifted acted p.pairs) s t.goal t.shown i.registers
          (pair_by_goal (drifted_with acted p.pairs) t.goal t.shown ∙ drifted_to acted p.pairs s.goal s.shown t.goal t.shown i.pair m.1));
      whole = λ b. whole_drift acted rate p (whole_in rate h whole l);
      few = λ b n few. few_pairs n (drifted acted p.pairs) p few;
    })

-- ---- a new goal

gone_has : (goal : Mode) (p : List ModeSet) (g m : Mode) → has_pair (gone goal p) g m ≡ (is_mode g goal && has (all_shown p).0 m)
gone_has goal p g m = grind arith

goal_has : (may_stay : Bool) (goal : Mode) (p : List ModeSet) (g m : Mode)
    → has_pair (gone_pairs may_stay goal p) g m ≡ ((may_stay && has_pair p g m) || (is_mode g goal && has (all_shown p).0 m))
goal_has may_stay goal p g m = grind (arith, gone_has, pair_by_goal, has-or)

goal_goes : (may_stay : Bool) (goal : Mode) (p : List ModeSet) (m : Mode) → has (all_shown p).0 m ≡ true → has_pair (gone_pairs may_stay goal p) goal m ≡ true
goal_goes b goal p m h = goal_has b goal p goal m ∙ rw (mode_self goal, h) (or-true (b && has_pair p goal m))

-- a command leaves a state
pub gone_some : (may_stay : Bool) (goal : Mode) (p : List ModeSet) → some_pair p ≡ true → some_pair (gone_pairs may_stay goal p) ≡ true
gone_some b goal p some = let m = some_mode (all_shown p) some in pairs_some (gone_pairs b goal p) goal m.0 (goal_goes b goal p m.0 m.1)

-- so does one that may lead to some goals
kept_has : (goals : ModeSet) (p : List ModeSet) (g m : Mode)
    → has_pair (kept_or_gone goals p) g m ≡ (has_pair p g m || (has goals.0 g && has (all_shown p).0 m))
kept_has goals p g m = let new = pairs_of goals (all_shown p) in pair_by_goal (λ f. either (shown_with p f) (shown_with new f)) g m
    ∙ has-or (shown_with p g).0 (shown_with new g).0 m ∙ ap (λ b. has_pair p g m || b) (pairs_have goals (all_shown p) g m)

kept_some : (goals : ModeSet) (p : List ModeSet) → some_pair p ≡ true → some_pair (kept_or_gone goals p) ≡ true
kept_some goals p some = let m = some_mode (all_shown p) some in let f = goes_from p m.0 m.1 in
    pairs_some (kept_or_gone goals p) f.0 m.0 (kept_has goals p f.0 m.0 ∙ rw f.1 refl)

live_kept : (goals : ModeSet) (p : Part) → part_remains (where_remains (kept_or_gone_part goals) p) ≡ part_remains p
live_kept goals p = by (part_remains p) refl
  where
    by : (b : Bool) → part_remains p ≡ b → part_remains (if b then kept_or_gone_part goals p else p) ≡ b
    by true live = kept_some goals p.pairs live
    by false dead = dead

pub halves_live_kept : (goals : ModeSet) (h : Halves) → halves_remain (halves_kept_or_gone goals h) ≡ halves_remain h
halves_live_kept goals h = rw (live_kept goals h.remote, live_kept goals h.local) refl

-- the states with this goal, and those that may stay as they are
goal_leads : (rate : Rate) (Goes : State → State → Type 0) (may_stay : Bool → Bool) (goal : Mode) (p : Part)
    → ((s t : State) → Goes s t ↔ ((t ≡ record s { goal = goal }) ⊎ ((may_stay s.local ≡ true) × (t ≡ s))))
    → Whole rate p → part_remains p ≡ true → PartLeads rate Goes (λ n. n) p (λ l. gone_part (may_stay l) goal p)
goal_leads rate Goes may_stay goal p steps whole live = record {
  from = λ t i.
      let b = may_stay t.local in let old = pairs_registers p (gone_pairs b goal p.pairs) t i in
      elim (or_cases _ _ (sym (goal_has b goal p.pairs t.goal t.shown) ∙ i.pair)) [
        | inl stays ↦ let w = and_parts _ _ stays in (t, in_pairs p p.pairs t t.goal t.shown old w.1, refl, refl, (steps t t).1 (inr (w.0, refl)))
        | inr new ↦ let w = and_parts _ _ new in let f = goes_from p.pairs t.shown w.1 in let s : State = record t { goal = f.0 } in (
          s,
          in_pairs p p.pairs t f.0 t.shown old f.1,
          refl,
          refl,
          (steps s t).1
              (inl (ap (λ (g : Mode). record t { goal = g }) (is_mode-same t.goal goal w.0))),
        )
      ];
  to = λ s t i d. let b = may_stay s.local in elim ((steps s t).0 d) [
    | inl e ↦ rw e (in_pairs p (gone_pairs b goal p.pairs) s goal s.shown i.registers
        (goal_goes b goal p.pairs s.shown (goes_to p.pairs s.goal s.shown i.pair)))
    | inr (stays, e) ↦ rw e (in_pairs p (gone_pairs b goal p.pairs) s s.goal s.shown i.registers
        (goal_has b goal p.pairs s.goal s.shown ∙ rw (stays, i.pair) refl))
  ];
  whole = λ l. whole_pairs rate (gone_pairs (may_stay l) goal p.pairs) p whole (gone_some (may_stay l) goal p.pairs live ∙ sym live);
  few = λ l n few. few_pairs n _ p few;
}

-- the states as they are, and those with one of these goals
kept_leads : (deck : Option Deck) (rate : Rate) (may_stay : Bool) (goals : ModeSet) (p : Part)
    → Whole rate p → part_remains p ≡ true → PartLeads rate (DoesOrStays (untouched deck rate) may_stay (effect.KeepOr goals)) (λ n. n) p (λ l. kept_or_gone_part goals p)
kept_leads deck rate m goals p whole live = record {
  from = λ t i.
      let old = pairs_registers p (kept_or_gone goals p.pairs) t i in
      elim (or_cases _ _ (sym (kept_has goals p.pairs t.goal t.shown) ∙ i.pair)) [
        | inl stays ↦ (t, in_pairs p p.pairs t t.goal t.shown old stays, refl, refl, inl (inl refl))
        | inr new ↦ let w = and_parts _ _ new in let f = goes_from p.pairs t.shown w.1 in
            (record t { goal = f.0 }, in_pairs p p.pairs t f.0 t.shown old f.1, refl, refl, inl (inr (w.0, refl)))
      ];
  to = λ s t i d. elim d [
    | inl (inl e) ↦ rw e (kept_state s i)
    | inl (inr (goes, e)) ↦ rw e (in_pairs p (kept_or_gone goals p.pairs) s t.goal s.shown i.registers
        (kept_has goals p.pairs t.goal s.shown ∙ rw (goes, goes_to p.pairs s.goal s.shown i.pair) (or-true (has_pair p.pairs t.goal s.shown))))
    | inr (stays, e) ↦ rw e (kept_state s i)
  ];
  whole = λ l. whole_pairs rate (kept_or_gone goals p.pairs) p whole (kept_some goals p.pairs live ∙ sym live);
  few = λ l n few. few_pairs n _ p few;
}
  where
    kept_state : (s : State) → InPart p s → InPart (kept_or_gone_part goals p) s
    kept_state s i = in_pairs p (kept_or_gone goals p.pairs) s s.goal s.shown i.registers (kept_has goals p.pairs s.goal s.shown ∙ rw i.pair refl)

-- ---- effects

-- a part that may have lost its last entry, unless it may also stay
abbrev pub kept_if : Bool → Part → Part
kept_if true p = p
kept_if false p = settled p

kept_exactly : (l : Bool) (p : Part) (t : State) → InPart (kept_if l p) t ↔ InPart p t
kept_exactly false p t = settled_exactly p t
kept_exactly true p t = (λ i. i, λ i. i)

-- what an effect makes of a part with states
abbrev pub part_effect : Bool → Effect → Bool → Part → Part
part_effect may_stay (effect.Go g) l p = gone_part (l || may_stay) g p
part_effect may_stay (effect.KeepOr goals) l p = kept_or_gone_part goals p
part_effect may_stay (effect.Change r c) l p = kept_if l (changed_part (l || may_stay) r c p)
part_effect may_stay _ l p = p

-- entries keep their rate
changed_rate : (may_stay : Bool) (c : Change) (es : Entries) → (changed_entries may_stay c es).rate ≡ es.rate
changed_rate may_stay c es = grind arith

agreeing_rate : (o : Option ℕ) (es : Entries) → (agreeing o es).rate ≡ es.rate
agreeing_rate o es = grind arith

put_rate : (rate : Rate) (r : Register) (es : Entries) (p : Part) → OfRate rate p → es.rate ≡ (entries_of r p).rate → OfRate rate (with_entries r es p)
put_rate rate r es p old same = each_put (λ q es. es.rate ≡ rate) r es p old (same ∙ old r)

-- it goes part by part
abbrev pub is_by_part : Effect → Bool
is_by_part effect.Nothing = false
is_by_part (effect.Panel on) = false
is_by_part (effect.Forget g) = false
is_by_part _ = true

kept_few : (l : Bool) (n : Presets) (p : Part) → FewIn n p → FewIn n (kept_if l p)
kept_few l n p few = grind (arith, few_settled)

changed_whole : (rate : Rate) (may_stay : Bool) (r : Register) (c : Change) (p : Part) → Whole rate p → part_remains p ≡ true → PartBelow p → (l : Bool)
    → Whole rate (kept_if l (changed_part (l || may_stay) r c p))
changed_whole rate m r c p whole live below true =
    let es = entries_of r p in
    let some = some_allowed es ((whole r).0 ∙ live) in
    let new = changed_entries true c es in
    whole_put rate r new p whole (allowed_some new some.0 (entry_stays true c es some.0 refl (below r) some.1) ∙ sym live)
    (changed_rate true c es ∙ (whole r).1)
changed_whole rate m r c p whole live below false = whole_settled rate (changed_part m r c p)
    (put_rate rate r (changed_entries m c (entries_of r p)) p (of_rate rate p whole) (changed_rate m c (entries_of r p)))

any_pair : (g m : Mode) → has_pair all_pairs g m ≡ true
any_pair g m = pair_by_goal (λ g. modes 0x3FF) g m ∙ all_has m

part_leads : (deck : Option Deck) (rate : Rate) (may_stay : Bool) (e : Effect) (p : Part) → is_by_part e ≡ true → Whole rate p → part_remains p ≡ true → Below e p
    → PartLeads rate (DoesOrStays (untouched deck rate) may_stay e) (counted e) p (λ l. part_effect may_stay e l p)
part_leads deck rate m (effect.Go g) p by whole live below = goal_leads rate (DoesOrStays (untouched deck rate) m (effect.Go g)) (λ l. l || m) g p
    (λ s t. (λ d. d, λ d. d)) whole
    live
part_leads deck rate m (effect.KeepOr goals) p by whole live below = kept_leads deck rate m goals p whole live
part_leads deck rate m (effect.Change r c) p by whole live below =
    let es = entries_of r p in let some = some_allowed es ((whole r).0 ∙ live) in let is : es.rate ≡ rate = (whole r).1 in record {
      from = λ t i.
          let b = t.local || m in let new = changed_entries b c es in let e = entry_of r t in
          let j = (kept_exactly t.local (changed_part b r c p) t).0 i in
          elim (entry_from b c es some.0 e some.1 (subst (λ es. Allows es e) (read_put r new p) (j.registers r))) [
            | inl (f, a, becomes) ↦ let at = put r f t in (
              with_entry r f t,
              take_out r new p f t j a,
              at.local,
              at.panel,
              inl (
                e,
                subst (λ other. Becomes other c (entry_of r (with_entry r f t)) e) is
                    (subst (λ d. Becomes es.rate c d e) (sym at.entry) becomes),
                sym at.again,
              ),
            )
            | inr (stays, same) ↦ (t, subst (InPart p) (put r e t).same (take_out r new p e t j same), refl, refl, inr (stays, refl))
          ];
      to = λ s t i d. let e = entry_of r s in let b = s.local || m in elim d [
        | inl (f, becomes, same) ↦ rw same ((kept_exactly s.local (changed_part b r c p) (with_entry r f s)).1
            (put_in r _ p f s i (entry_to b c es e f (i.registers r) (subst (λ other. Becomes other c e f) (sym is) becomes))))
        | inr (stays, same) ↦ (kept_exactly s.local (changed_part b r c p) t).1
            (subst (InPart (changed_part b r c p)) ((put r e s).same ∙ sym same)
            (put_in r _ p e s i (entry_stays b c es e stays (below r) (i.registers r))))
      ];
      whole = changed_whole rate m r c p whole live below;
      few = λ l n few. kept_few l (counted (effect.Change r c) n) (changed_part (l || m) r c p) (few_changed_part (l || m) r c n p below few);
    }
part_leads deck rate m _ p by whole live below = absurd (false≢true by)

-- where nobody touches the panel no such effect changes it or local
does_keep : (deck : Option Deck) (rate : Rate) (may_stay : Bool) (e : Effect) (s t : State) → is_by_part e ≡ true → DoesOrStays (untouched deck rate) may_stay e s t → (t.panel ≡ s.panel) × (t.local ≡ s.local)
does_keep deck rate may_stay e s t by h = grind arith

pub has_effect : (deck : Option Deck) (rate : Rate) (may_stay : Bool) (e : Effect) (h : Halves) → is_by_part e ≡ true → HalvesWhole rate h → ((l : Bool) → Below e (in_local h l))
    → HasEffect deck rate may_stay e h (map_halves (λ l. where_remains (part_effect may_stay e l)) h)
has_effect deck rate m e h by whole below = leads rate (DoesOrStays (untouched deck rate) m e) (counted e)
    (record { local = λ s t d. (does_keep deck rate m e s t by d).1; panel = λ s t d. (does_keep deck rate m e s t by d).0 }) (part_effect m e) h whole
    (λ l n few. few_counted e n (in_local h l) (below l) few) (λ l live. part_leads deck rate m e (in_local h l) by (whole_in rate h whole l) live (below l))

-- ---- a drift after what becomes of the registers

pub halves_same : (g h : Halves) → g.remote ≡ h.remote → g.local ≡ h.local → g ≡ h
halves_same g h p q = ap (λ (r : Part). let k : Halves = record g { remote = r } in k) p ∙ ap (λ (l : Part). let k : Halves = record h { local = l } in k) q

drift_live : (acted : Acted) (f : Part → Part) (p : Part) → drifted_part acted (f p) ≡ f (drifted_part acted p) → drifted_part acted (where_remains f p) ≡ where_remains f (drifted_part acted p)
drift_live acted f p same = rw (drift_some acted p.pairs) (elim (part_remains p) as (λ b. drifted_part acted (if b then f p else p)
    ≡ (if b then f (drifted_part acted p) else drifted_part acted p)) [ true ↦ same | false ↦ refl ])

pub drift_halves : (acted : Acted) (f : Bool → Part → Part) (h : Halves) → ((l : Bool) (p : Part) → drifted_part acted (f l p) ≡ f l (drifted_part acted p))
    → halves_drifted acted (map_halves (λ l. where_remains (f l)) h) ≡ map_halves (λ l. where_remains (f l)) (halves_drifted acted h)
drift_halves acted f h same = grind (arith, halves_same, drift_live)

-- what becomes of a register's entries is the same after a drift
pub drift_put : (acted : Acted) (r : Register) (f : Entries → Entries) (p : Part) → drifted_part acted (with_entries r (f (entries_of r p)) p)
    ≡ with_entries r (f (entries_of r (drifted_part acted p))) (drifted_part acted p)
drift_put acted r f p = grind arith

drift_settled : (acted : Acted) (p : Part) → drifted_part acted (settled p) ≡ settled (drifted_part acted p)
drift_settled acted p = rw (drift_some acted p.pairs) (elim (part_remains p && some_entry p.ins && some_entry p.outs && some_entry p.ains && some_entry p.aouts)
    as (λ b. drifted_part acted (if b then p else no_states (part_rate p)) ≡ (if b then drifted_part acted p else no_states (part_rate p))) [ true ↦ refl | false ↦ refl ])

drift_kept : (acted : Acted) (l : Bool) (p : Part) → drifted_part acted (kept_if l p) ≡ kept_if l (drifted_part acted p)
drift_kept acted l p = grind (arith, drift_settled)

-- what is made aside where there is a state, and then put in place
changed_is : (may_stay : Bool) (r : Register) (c : Change) (h : Halves)
    → halves_changed may_stay r c h ≡ map_halves (λ l. where_remains (part_effect may_stay (effect.Change r c) l)) h
changed_is may_stay r c h = grind arith

-- what becomes of a register, and then a drift
pub after_change : (acted : Acted) (rate : Rate) (may_stay : Bool) (r : Register) (c : Change) (h : Halves) → HalvesWhole rate h → HalvesBelow h
    → HasEffect acted.deck rate may_stay (effect.Change r c) (halves_drifted acted h) (halves_drifted acted (halves_changed may_stay r c h))
after_change acted rate m r c h whole below = subst (HasEffect acted.deck rate m (effect.Change r c) (halves_drifted acted h)) (sym (ap (halves_drifted acted) (changed_is m r c h)
    ∙ drift_halves acted (part_effect m (effect.Change r c)) h (λ l p. drift_kept acted l (changed_part (l || m) r c p) ∙ ap (kept_if l) (drift_put acted r (changed_entries (l || m) c) p))))
    (has_effect acted.deck rate m (effect.Change r c) (halves_drifted acted h) refl (drift_whole acted rate h whole) (drift_below acted h below))

-- ---- one after another

-- what leads on in one step after another
pub leads_then : (rate : Rate) (Goes Then : State → State → Type 0) (first second : Presets → Presets) (h g k : Halves) → LeadsOn rate Goes first h g → LeadsOn rate Then second g k
    → LeadsOn rate (λ s t. (d : State) × Goes s d × Then d t) (λ n. second (first n)) h k
leads_then rate Goes Then first second h g k a b = record {
  reached = λ pn. (
    λ t i. let d = (b.reached pn).0 t i in let s = (a.reached pn).0 d.0 d.1 in (s.0, s.1, (d.0, s.2, d.2)),
    λ s t i w. (b.reached pn).1 w.0 t ((a.reached pn).1 s w.0 i w.1) w.2,
  );
  whole = b.whole;
  few = λ n few. b.few (first n) (a.few n few);
}

-- and in another step to the same states
pub leads_as : (rate : Rate) (Goes Other : State → State → Type 0) (count counts : Presets → Presets) (h g : Halves) → ((s t : State) → Goes s t → Other s t)
    → ((s t : State) → InPart (in_local h s.local) s → Other s t → Goes s t)
    → ((n : Presets) → counts n ≡ count n) → LeadsOn rate Goes count h g → LeadsOn rate Other counts h g
leads_as rate Goes Other count counts h g there back same led = record {
  reached = λ pn. (λ t i. let a = (led.reached pn).0 t i in (a.0, a.1, there a.0 t a.2), λ s t i other. (led.reached pn).1 s t i (back s t i.1 other));
  whole = led.whole;
  few = λ n few. subst (λ m. HalvesFew m g) (sym (same n)) (led.few n few);
}

pub leads_same : (rate : Rate) (h : Halves) → HalvesWhole rate h → LeadsOn rate (λ s t. t ≡ s) (λ n. n) h h
leads_same rate h whole = record { reached = λ pn. (λ t i. (t, i, refl), λ s t i e. subst (InHalves pn h) (sym e) i); whole = whole; few = λ n few. few }

-- nothing but a drift
pub after_drift : (acted : Acted) (rate : Rate) (may_stay : Bool) (e : Effect) (h : Halves) → ((s t : State) → (t ≡ s) → Does (untouched acted.deck rate) e s t)
    → ((s t : State) → Does (untouched acted.deck rate) e s t → t ≡ s)
    → ((n : Presets) → counted e n ≡ n) → HalvesWhole rate h → HasEffect acted.deck rate may_stay e (halves_drifted acted h) (halves_drifted acted h)
after_drift acted rate m e h there back same whole = leads_as rate (λ s t. t ≡ s) (DoesOrStays (untouched acted.deck rate) m e) (λ n. n) (counted e) (halves_drifted acted h) (halves_drifted acted h)
    (λ s t e. inl (there s t e)) (λ s t i d. elim d [ inl does ↦ back s t does | inr (stays, e) ↦ e ]) same
    (leads_same rate (halves_drifted acted h) (drift_whole acted rate h whole))

-- ---- what is forgotten

forget_motion : (deck : Option Deck) (rate : Rate) (h : Halves) → HalvesWhole rate h → LeadsOn rate (Forgets (untouched deck rate) Motion) (λ n. n) h (motion_forgotten h)
forget_motion deck rate h whole = leads rate (Forgets (untouched deck rate) Motion) (λ n. n) (record { local = λ s t e. rw e refl; panel = λ s t e. rw e refl }) (λ l. with_pairs all_pairs) h whole
    (λ l n few. few) (λ l live. let p = in_local h l in let wide = whole_in rate h whole l in record {
      from = λ t i.
          let w = a_state rate p t.local t.panel wide live in
          (record t { goal = w.0.goal; shown = w.0.shown }, in_pairs p p.pairs t w.0.goal w.0.shown (pairs_registers p all_pairs t i) w.1.pair, refl, refl, refl);
      to = λ s t i e. subst (InPart (with_pairs all_pairs p)) (sym e) (in_pairs p all_pairs s t.goal t.shown i.registers (any_pair t.goal t.shown));
      whole = λ l. whole_pairs rate all_pairs p wide (sym live);
      few = λ l n few. few_pairs n all_pairs p few;
    })

forget_registers : (deck : Option Deck) (rate : Rate) (h : Halves) → HalvesWhole rate h → LeadsOn rate (Forgets (untouched deck rate) Registers) (λ n. n) h (registers_forgotten h)
forget_registers deck rate h whole = leads rate (Forgets (untouched deck rate) Registers) (λ n. n) (record { local = λ s t f. f.3; panel = λ s t f. f.4 }) (λ l. forgotten_part) h whole
    (λ l n few. few) (λ l live. let p = in_local h l in let wide = whole_in rate h whole l in
    subst (λ other. PartLeads rate (Forgets (untouched deck rate) Registers) (λ n. n) p (λ l. with_pairs p.pairs (all_states other))) (sym (wide RegIn).1) (record {
      from = λ t i.
          let w = a_state rate p t.local t.panel wide live in
          let s : State = record w.0 { goal = t.goal; shown = t.shown } in
          (s, in_pairs p p.pairs w.0 t.goal t.shown w.1.registers i.pair, w.2, w.3, (((any_entries rate p.pairs t).0 i).0, refl, refl, sym w.2, sym w.3));
      to = λ s t i f. (any_entries rate p.pairs t).1 (f.0, rw (f.1, f.2) i.pair);
      whole = λ l. whole_pairs rate p.pairs (all_states rate) (whole_all rate) (live ∙ sym (whole_all rate RegIn).0);
      few = λ l n few. few_pairs n p.pairs (all_states rate) (few_all_states rate n);
    }))

-- the registers first, and then goal and shown mode
tape_exactly : (p : Profile) (s t : State) → ((d : State) × Forgets p Registers s d × Forgets p Motion d t) ↔ Forgets p Tape s t
tape_exactly p s t = (
  λ (d, registers, motion). let valid = does_valid p (effect.Forget Motion) d t registers.0 motion in grind arith,
  λ tape. (record t { goal = s.goal; shown = s.shown }, (λ r. let valid = tape.0 r in grind arith, refl, refl, tape.1, tape.2), refl),
)

forget_all : (deck : Option Deck) (rate : Rate) (h : Halves) → HalvesWhole rate h → LeadsOn rate (Forgets (untouched deck rate) Everything) (λ n. n) h (all_forgotten h)
forget_all deck rate h whole = subst (λ other. LeadsOn rate (Forgets (untouched deck rate) Everything) (λ n. n) h (if halves_remain h then all_or_none other true else h))
    (sym (whole_rate rate h whole)) (record {
      reached = λ pn. (
        λ t i. cond_both (halves_remain h) (all_or_none rate true) h (λ g. InHalves pn g t → (s : State) × InHalves pn h s × Forgets (untouched deck rate) Everything s t)
            (λ live i. let w = halves_state rate h pn whole live in (w.0, w.1, (((all_exactly rate true t).0 i.1).1, i.0 ∙ sym w.1.0)))
            (λ dead i. absurd (false≢true (sym dead ∙ halves_live h t i.1))) i,
        λ s t i f. (f.1 ∙ i.0, rw (halves_live h s i.1) ((all_exactly rate true t).1 (refl, f.0))),
      );
      whole = cond_both (halves_remain h) (all_or_none rate true) h (HalvesWhole rate) (λ live. whole_halves rate true) (λ dead. whole);
      few = λ n few. cond_both (halves_remain h) (all_or_none rate true) h (HalvesFew n) (λ live. few_halves rate n true) (λ dead. few);
    })

pub halves_forget : (deck : Option Deck) (rate : Rate) (g : Forgotten) (h : Halves) → HalvesWhole rate h → LeadsOn rate (Forgets (untouched deck rate) g) (λ n. n) h (halves_forgotten g h)
halves_forget deck rate Nothing h whole = leads_same rate h whole
halves_forget deck rate Motion h whole = forget_motion deck rate h whole
halves_forget deck rate Registers h whole = forget_registers deck rate h whole
halves_forget deck rate Tape h whole = let p = untouched deck rate in let first = forget_registers deck rate h whole in
    leads_as rate (λ s t. (d : State) × Forgets p Registers s d × Forgets p Motion d t) (Forgets p Tape) (λ n. n) (λ n. n) h (halves_forgotten Tape h)
    (λ s t. (tape_exactly p s t).0) (λ s t i. (tape_exactly p s t).1) (λ n. refl)
    (leads_then rate (Forgets p Registers) (Forgets p Motion) (λ n. n) (λ n. n) h (registers_forgotten h) (halves_forgotten Tape h) first (forget_motion deck rate (registers_forgotten h) first.whole))
halves_forget deck rate Everything h whole = forget_all deck rate h whole

-- it is the same before a drift as after it
drift_forgotten : (acted : Acted) (g : Forgotten) (h : Halves) → halves_drifted acted (halves_forgotten g h) ≡ halves_forgotten g (halves_drifted acted h)
drift_forgotten acted Nothing h = refl
drift_forgotten acted Motion h = drift_halves acted (λ l. with_pairs all_pairs) h (λ l p. rw (all_drifted_pairs acted) refl)
drift_forgotten acted Registers h = drift_halves acted (λ l. forgotten_part) h (λ l p. refl)
drift_forgotten acted Tape h = drift_halves acted (λ l. with_pairs all_pairs) (registers_forgotten h) (λ l p. rw (all_drifted_pairs acted) refl)
    ∙ ap motion_forgotten (drift_halves acted (λ l. forgotten_part) h (λ l p. refl))
drift_forgotten acted Everything h = by (halves_remain h) ∙ ap (λ (b : Bool). if b then all_or_none (halves_rate h) true else halves_drifted acted h) (sym same)
  where
    same : halves_remain (halves_drifted acted h) ≡ halves_remain h
    same = ap (λ b. b || part_remains (drifted_part acted h.local)) (drift_some acted h.remote.pairs) ∙ ap (λ b. part_remains h.remote || b) (drift_some acted h.local.pairs)

    by : (b : Bool) → halves_drifted acted (if b then all_or_none (halves_rate h) true else h) ≡ (if b then all_or_none (halves_rate h) true else halves_drifted acted h)
    by true = drifted_all acted (halves_rate h) true
    by false = refl

-- forgetting may leave a state as it is
forgets_itself : (deck : Option Deck) (rate : Rate) (g : Forgotten) (s : State) → IsState rate s → Forgets (untouched deck rate) g s s
forgets_itself deck rate g s valid = grind arith

pub after_forgotten : (acted : Acted) (rate : Rate) (may_stay : Bool) (g : Forgotten) (h : Halves) → HalvesWhole rate h → HalvesBelow h
    → HasEffect acted.deck rate may_stay (effect.Forget g) (halves_drifted acted h) (halves_drifted acted (halves_forgotten g h))
after_forgotten acted rate m g h whole below = subst (HasEffect acted.deck rate m (effect.Forget g) (halves_drifted acted h)) (sym (drift_forgotten acted g h))
    (leads_as rate (Forgets (untouched acted.deck rate) g) (DoesOrStays (untouched acted.deck rate) m (effect.Forget g)) (λ n. n) (counted (effect.Forget g)) (halves_drifted acted h)
    (halves_forgotten g (halves_drifted acted h)) (λ s t f. inl f) (λ s t i d. elim d [
      | inl f ↦ f
      | inr (stays, e) ↦ rw e (forgets_itself acted.deck rate g s
          (state_is rate (in_local (halves_drifted acted h) s.local) s (of_rate rate (in_local (halves_drifted acted h) s.local) (whole_in rate (halves_drifted acted h) (drift_whole acted rate h whole) s.local))
          (drift_below acted h below s.local) i))
    ]) (λ n. refl)
    (halves_forget acted.deck rate g (halves_drifted acted h) (drift_whole acted rate h whole)))

-- ---- a register's time

-- exactly the states whose register gives this time
sense_exactly : (rate : Rate) (r : Register) (time : Option ℕ) (p : Part) (t : State) → OfRate rate p
    → InPart (sensed_part r time p) t ↔ (InPart p t × Gives rate time (entry_of r t))
sense_exactly rate r time p t same =
    let es = entries_of r p in
    let new = agreeing time es in
    let e = entry_of r t in
    let gives = subst (λ other. Allows new e ↔ (Allows es e × Gives other time e)) (same r) (gives_exactly time es e) in (
      λ i.
          let there = (settled_exactly (with_entries r new p) t).0 i in
          let w = gives.0 (subst (λ es. Allows es e) (read_put r new p) (there.registers r)) in
          (subst (InPart p) (put r e t).same (take_out r new p e t there w.0), w.1),
      λ (i, given). (settled_exactly (with_entries r new p) t).1 (subst (InPart (with_entries r new p)) (put r e t).same
          (put_in r new p e t i (gives.1 (i.registers r, given)))),
    )

-- ---- status

pub masked_has : (mask : ModeSet) (p : List ModeSet) (g m : Mode) → has_pair (masked mask p) g m ≡ (has_pair p g m && has mask.0 m)
masked_has mask p g m = pair_by_goal (λ f. both (shown_with p f) mask) g m ∙ has-and (shown_with p g).0 mask.0 m

local_exactly : (o : Option Bool) (local : Bool) → (is_as_wanted o local ≡ true) ↔ IfSome o (λ b. local ≡ b)
local_exactly o local = grind arith

-- exactly the states that show a reported mode
masked_exactly : (o : Option ModeSet) (p : Part) (t : State) → InPart (masked_part o p) t ↔ (InPart p t × IfSome o (λ modes. has modes.0 t.shown ≡ true))
masked_exactly None p t = (λ i. (i, tt), λ w. w.0)
masked_exactly (Some mask) p t = (
  λ i.
      let pair = and_parts (has_pair p.pairs t.goal t.shown) (has mask.0 t.shown) (sym (masked_has mask p.pairs t.goal t.shown) ∙ i.pair) in
      (in_pairs p p.pairs t t.goal t.shown (pairs_registers p (masked mask p.pairs) t i) pair.0, pair.1),
  λ (i, h). in_pairs p (masked mask p.pairs) t t.goal t.shown i.registers
      (masked_has mask p.pairs t.goal t.shown ∙ and_from (has_pair p.pairs t.goal t.shown) (has mask.0 t.shown) i.pair h),
)

-- exactly the states with registers Set as reported
set_exactly_where : (o : Option RegistersSet) (p : Part) (t : State) → InPart (set_where o p) t ↔ (InPart p t × IfSome o (AreSet t))
set_exactly_where None p t = (λ i. (i, tt), λ w. w.0)
set_exactly_where (Some set) p t = (
  λ i.
      let a = (set_exactly set.ins p.ins t.ins).0 (i.registers RegIn) in let b = (set_exactly set.outs p.outs t.outs).0 (i.registers RegOut) in
      let c = (set_exactly set.ains p.ains t.ains).0 (i.registers RegAudioIn) in let d = (set_exactly set.aouts p.aouts t.aouts).0 (i.registers RegAudioOut) in
      (record { pair = i.pair; registers = each_register _ a.0 b.0 c.0 d.0 }, record { ins = a.1; outs = b.1; ains = c.1; aouts = d.1 }),
  λ (i, h). record {
    pair = i.pair;
    registers = each_register _ ((set_exactly set.ins p.ins t.ins).1 (i.registers RegIn, h.ins))
        ((set_exactly set.outs p.outs t.outs).1 (i.registers RegOut, h.outs))
        ((set_exactly set.ains p.ains t.ains).1 (i.registers RegAudioIn, h.ains))
        ((set_exactly set.aouts p.aouts t.aouts).1 (i.registers RegAudioOut, h.aouts));
  },
)

-- exactly the states with which a status agrees
status_exactly : (status : Status) (p : Part) (t : State) → InPart (status_part t.local status p) t ↔ (InPart p t × ShowsStatus t status)
status_exactly status p t = let q = masked_part status.shown p in (
  λ i. cond_both (is_as_wanted status.local t.local) (reported_part status p) (no_states (part_rate p)) (λ q. InPart q t → InPart p t × ShowsStatus t status) (λ here i.
      let a = (set_exactly_where status.registers q t).0 ((settled_exactly (set_where status.registers q) t).0 i) in let b = (masked_exactly status.shown p t).0 a.0 in
      (b.0, record { local = (local_exactly status.local t.local).0 here; shown = b.1; registers = a.1 })) (λ e i. in_none (part_rate p) t i) i,
  λ (i, h). rw ((local_exactly status.local t.local).1 h.local)
      ((settled_exactly (set_where status.registers q) t).1 ((set_exactly_where status.registers q t).1
      ((masked_exactly status.shown p t).1 (i, h.shown), h.registers))),
)

masked_rate : (rate : Rate) (o : Option ModeSet) (p : Part) → OfRate rate p → OfRate rate (masked_part o p)
masked_rate rate None p same = same
masked_rate rate (Some mask) p same = each_register _ (same RegIn) (same RegOut) (same RegAudioIn) (same RegAudioOut)

where_rate : (rate : Rate) (o : Option RegistersSet) (p : Part) → OfRate rate p → OfRate rate (set_where o p)
where_rate rate o p same = grind arith

reported_rate : (rate : Rate) (status : Status) (p : Part) → OfRate rate p → OfRate rate (set_where status.registers (masked_part status.shown p))
reported_rate rate status p same = where_rate rate status.registers (masked_part status.shown p) (masked_rate rate status.shown p same)

few_masked : (n : Presets) (o : Option ModeSet) (p : Part) → FewIn n p → FewIn n (masked_part o p)
few_masked n o p few = grind arith

few_where : (n : Presets) (o : Option RegistersSet) (p : Part) → FewIn n p → FewIn n (set_where o p)
few_where n None p few = few
few_where n (Some set) p few = each_register _ (few_set n.ins set.ins p.ins (few RegIn)) (few_set n.outs set.outs p.outs (few RegOut))
    (few_set n.ains set.ains p.ains (few RegAudioIn)) (few_set n.aouts set.aouts p.aouts (few RegAudioOut))

reads_status : (rate : Rate) (status : Status) (h : Halves) → HalvesWhole rate h → LeadsOn rate (λ s t. ShowsStatus s status × (t ≡ s)) (λ n. n) h (halves_status status h)
reads_status rate status h whole = reads rate (λ s. ShowsStatus s status) (λ l. status_part l status) h whole (λ p t same. status_exactly status p t)
    (λ l p same. cond_both (is_as_wanted status.local l) (reported_part status p) (no_states (part_rate p)) (Whole rate)
    (λ e. whole_settled rate (set_where status.registers (masked_part status.shown p)) (reported_rate rate status p same))
    (λ e. subst (λ other. Whole rate (no_states other)) (sym (same RegIn)) (whole_none rate)))
    (λ l n p few. cond_both (is_as_wanted status.local l) (reported_part status p) (no_states (part_rate p)) (FewIn n)
    (λ e. few_settled n (set_where status.registers (masked_part status.shown p))
    (few_where n status.registers (masked_part status.shown p) (few_masked n status.shown p few))) (λ e. few_no_states (part_rate p) n))

-- ---- deeds

-- a drift, and then what a deed makes of the states
pub taken : (acted : Acted) (rate : Rate) (d : Deed) (h g : Halves) → HalvesWhole rate h
    → LeadsOn rate (Acts d (untouched acted.deck rate)) (counts_after d) (halves_drifted acted h) g → TakenQuietly acted rate d h g
taken acted rate d h g whole led = leads_then rate (Drift (untouched acted.deck rate) (quiet acted.on)) (Acts d (untouched acted.deck rate)) (λ n. n) (counts_after d) h (halves_drifted acted h) g
    (drift_leads acted rate h whole) led

drift_sensed : (acted : Acted) (r : Register) (time : Option ℕ) (h : Halves)
    → halves_drifted acted (halves_sensed r time h) ≡ map_halves (λ l. where_remains (sensed_part r time)) (halves_drifted acted h)
drift_sensed acted r time h = ap (halves_drifted acted) (halves_same _ (map_halves (λ l. where_remains (sensed_part r time)) h) (by h.remote (part_remains h.remote))
    (by h.local (part_remains h.local)))
    ∙ drift_halves acted (λ l. sensed_part r time) h (λ l p. drift_settled acted (with_entries r (agreeing time (entries_of r p)) p)
    ∙ ap settled (drift_put acted r (agreeing time) p))
  where
    by : (p : Part) (b : Bool) → put_settled r (if b then Some (agreeing time (entries_of r p)) else None) p ≡ (if b then sensed_part r time p else p)
    by p b = grind arith

pub taken_read : (acted : Acted) (rate : Rate) (r : Register) (time : Option ℕ) (h : Halves) → HalvesWhole rate h
    → TakenQuietly acted rate (deed.Read r time) h (halves_drifted acted (halves_sensed r time h))
taken_read acted rate r time h whole = rw (drift_sensed acted r time h) (taken acted rate (deed.Read r time) h
    (map_halves (λ l. where_remains (sensed_part r time)) (halves_drifted acted h)) whole
    (reads rate (λ s. Gives rate time (entry_of r s)) (λ l. sensed_part r time) (halves_drifted acted h) (drift_whole acted rate h whole) (sense_exactly rate r time)
    (λ l p same. whole_settled rate (with_entries r (agreeing time (entries_of r p)) p)
    (put_rate rate r (agreeing time (entries_of r p)) p same (agreeing_rate time (entries_of r p))))
    (λ l n p few. few_settled n _ (few_put n r (agreeing time (entries_of r p)) p few (few_agreeing _ time (entries_of r p))))))

pub taken_report : (acted : Acted) (rate : Rate) (status : Status) (h : Halves) → HalvesWhole rate h
    → TakenQuietly acted rate (deed.Report status) h (halves_status status (halves_drifted acted h))
taken_report acted rate status h whole = taken acted rate (deed.Report status) h (halves_status status (halves_drifted acted h)) whole
    (reads_status rate status (halves_drifted acted h) (drift_whole acted rate h whole))
