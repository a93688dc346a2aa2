-- What a move of a hand leaves of a set of states: exactly that, and what a tracker of them keeps.
use Rattle.track9.proofs.Words.{all_has, all_shown, AllLeadOn, Allows, and_from, AreBelow, AreReached, AreTracked, AreWhole, cond_both}
use Rattle.track9.proofs.Words.{begin_count-every_time, Bool, Deck, Entries, entries_of, Entry, entry_of, false, goals_of, Halves, HalvesBelow, HalvesFew, HalvesWhole}
use Rattle.track9.proofs.Words.{has_pair, if◌then◌else◌, in_local, InHalves, InPart, LeadsOn, List, Mode, modes, ModeSet, None, not, on_halves}
use Rattle.track9.proofs.Words.{Option, option_map, Part, part_remains, Presets, profile_of, Rate, states_rate, refl, RegAudioIn, RegAudioOut, RegIn, Register, RegOut, shown_with, Some}
use Rattle.track9.proofs.Words.{some_entry, some_mode, some_pair, State, States, subst, sym, true, where_remains, Whole, ◌∙◌, ◌≡◌}
use Rattle.std.proofs.Common.{arith}
use Rattle.track9.proofs.EntryLemmas.{goals_has, in_day, goes_from, goes_to, pair_by_goal, pairs_some, some_allowed, pairs_have}
use Rattle.track9.proofs.KnownLemmas.{goal_to, whole_at_rate}
use Rattle.track9.proofs.PartLemmas.{both_few, of_rate, by_panel, each_register, entry_exactly, FewIn, halves_none, whole_rate, not_live, PartBelow, state_is, state_live, whole_in}
use Rattle.track9.specs.Touched.{StaysIf, Touches}
use Rattle.track9.specs.Working.Touched.{halves_touched, states_touched, touched_entries, touched_from, touched_pairs, touched_part}
use Rattle.track9.specs.declared.kept.Kept.{Kept}

-- ---- pairs

pair_from : (keeps_goal keeps_shown : Bool) (p : List ModeSet) (g m : Mode) → some_pair p ≡ true → has_pair (touched_pairs keeps_goal keeps_shown p) g m ≡ true
    → (f : Mode) × (n : Mode) × (has_pair p f n ≡ true) × StaysIf keeps_goal f g × StaysIf keeps_shown n m
pair_from true true p g m some h = (g, m, h, refl, refl)
pair_from true false p g m some h = let n = some_mode (shown_with p g) (grind (arith, pairs_have (goals_of p) (modes 0x3FF) g m, goals_has p g)) in (g, n.0, n.1, refl, tt)
pair_from false true p g m some h = let f = goes_from p m (grind (arith, pairs_have (modes 0x3FF) (all_shown p) g m)) in (f.0, m, f.1, tt, refl)
pair_from false false p g m some h = let n = some_mode (all_shown p) some in let f = goes_from p n.0 n.1 in (f.0, n.0, f.1, tt, tt)

pair_to : (keeps_goal keeps_shown : Bool) (p : List ModeSet) (f n g m : Mode) → has_pair p f n ≡ true → StaysIf keeps_goal f g → StaysIf keeps_shown n m
    → has_pair (touched_pairs keeps_goal keeps_shown p) g m ≡ true
pair_to keeps_goal keeps_shown p f n g m h goal shown = grind (arith, pairs_have, and_from, goal_to, all_has, goes_to, pair_by_goal)

-- ---- entries

entry_from : (keep : Bool) (es : Entries) (e : Entry) → some_entry es ≡ true → Allows (touched_entries keep es) e → (d : Entry) × Allows es d × StaysIf keep d e
entry_from keep es e some a = grind (arith, some_allowed)

-- ---- a part

-- whether a register is kept
abbrev kept_of : Register → Kept → Bool
kept_of RegIn k = k.ins
kept_of RegOut k = k.outs
kept_of RegAudioIn k = k.ains
kept_of RegAudioOut k = k.aouts

touched_of : (r : Register) (k : Kept) (p : Part) → entries_of r (touched_part k p) ≡ touched_entries (kept_of r k) (entries_of r p)
touched_of r k p = grind arith

-- a part with states keeps one
part_live : (k : Kept) (p : Part) → part_remains p ≡ true → part_remains (touched_part k p) ≡ true
part_live k p live =
    let m = some_mode (all_shown p.pairs) live in let g = goes_from p.pairs m.0 m.1 in
    pairs_some (touched_pairs k.goal k.shown p.pairs) g.0 m.0 (pair_to k.goal k.shown p.pairs g.0 m.0 g.0 m.0 g.1 (grind arith) (grind arith))

live_whole : (rate : Rate) (k : Kept) (p : Part) → Whole rate p → part_remains p ≡ true → Whole rate (touched_part k p)
live_whole rate k p whole live r = rw (touched_of r k p, part_live k p live) (grind (arith, whole r))

part_whole : (rate : Rate) (k : Kept) (p : Part) → Whole rate p → Whole rate (where_remains (touched_part k) p)
part_whole rate k p whole = cond_both (part_remains p) (touched_part k p) p (Whole rate) (λ live. live_whole rate k p whole live) (λ dead. whole)

part_few : (n : Presets) (k : Kept) (p : Part) → FewIn n p → FewIn n (where_remains (touched_part k) p)
part_few n k p few = cond_both (part_remains p) (touched_part k p) p (FewIn n) (λ live r. rw (touched_of r k p) (grind (arith, few r, begin_count-every_time))) (λ dead. few)

-- where a state comes from, of those with this value of local
part_from : (rate : Rate) (k : Kept) (l : Bool) (p : Part) (t : State) → Whole rate p → PartBelow p → part_remains p ≡ true → t.local ≡ (if k.local then l else not l)
    → InPart (touched_part k p) t → (s : State) × InPart p s × (s.local ≡ l) × (s.panel ≡ t.panel) × Touches rate k s t
part_from rate k l p t whole below live local i =
    let m = pair_from k.goal k.shown p.pairs t.goal t.shown live i.pair in
    let from : (r : Register) → (d : Entry) × Allows (entries_of r p) d × StaysIf (kept_of r k) d (entry_of r t) =
    λ r. entry_from (kept_of r k) (entries_of r p) (entry_of r t) ((whole r).0 ∙ live) (subst (λ es. Allows es (entry_of r t)) (touched_of r k p) (i.registers r)) in
    let a = from RegIn in let b = from RegOut in let c = from RegAudioIn in let d = from RegAudioOut in
    let s : State = record { goal = m.0; shown = m.1; ins = a.0; outs = b.0; ains = c.0; aouts = d.0; local = l; panel = t.panel } in
    let valid = state_is rate (touched_part k p) t (of_rate rate (touched_part k p) (live_whole rate k p whole live))
    (λ r. rw (touched_of r k p) (grind (arith, below r, in_day))) i in (
      s,
      record { pair = m.2; registers = each_register _ a.1 b.1 c.1 d.1 },
      refl,
      refl,
      record { goal = m.3; shown = m.4; ins = a.2; outs = b.2; ains = c.2; aouts = d.2; local = local; panel = refl; valid = valid },
    )

part_to : (rate : Rate) (k : Kept) (p : Part) (s t : State) → Whole rate p → InPart p s → Touches rate k s t → InPart (touched_part k p) t
part_to rate k p s t whole i w = record {
  pair = pair_to k.goal k.shown p.pairs s.goal s.shown t.goal t.shown i.pair w.goal w.shown;
  registers = λ r. grind (arith, entry_exactly, whole r, i.registers r, w.valid r);
}

-- ---- the parts with one value of the panel

by_local : (k : Kept) (h : Halves) (l : Bool) → in_local (halves_touched k h) l ≡ touched_from k h l
by_local k h l = grind arith

halves_lead : (rate : Rate) (k : Kept) (h : Halves) → HalvesWhole rate h → HalvesBelow h → LeadsOn rate (Touches rate k) (λ n. n) h (halves_touched k h)
halves_lead rate k h whole below = record {
  reached = λ pn. (λ t i. from pn t i.0 (subst (λ q. InPart q t) (by_local k h t.local) i.1), λ s t i w. (w.panel ∙ i.0, to s t i.1 w));
  whole = record { remote = part_whole rate k _ (whole_in rate h whole _); local = part_whole rate k _ (whole_in rate h whole _) };
  few = λ n few l. subst (FewIn n) (sym (by_local k h l)) (part_few n k _ (few _));
}
  where
    from : (pn : Bool) (t : State) → t.panel ≡ pn → InPart (touched_from k h t.local) t → (s : State) × InHalves pn h s × Touches rate k s t
    from pn t panel =
        let l : Bool = if k.local then t.local else not t.local in let p : Part = in_local h l in
        cond_both (part_remains p) (touched_part k p) p (λ q. InPart q t → (s : State) × InHalves pn h s × Touches rate k s t) (λ live i.
        let w = part_from rate k l p t (whole_in rate h whole l) (below l) live (grind arith) i in
        (w.0, (w.3 ∙ panel, subst (λ b. InPart (in_local h b) w.0) (sym w.2) w.1), w.4)) (λ dead i. not_live p t dead i)

    to : (s t : State) → InPart (in_local h s.local) s → Touches rate k s t → InPart (in_local (halves_touched k h) t.local) t
    to s t i w = let back : s.local ≡ (if k.local then t.local else not t.local) = grind (arith, w.local) in subst (λ q. InPart q t) (sym (by_local k h t.local))
        (subst (λ l. InPart (where_remains (touched_part k) (in_local h l)) t) back
        (rw (state_live (in_local h s.local) s i) (part_to rate k (in_local h s.local) s t (whole_in rate h whole s.local) i w)))

-- ---- all states

-- those with the panel on, if there may be any
on_leads : (rate : Rate) (k : Kept) (o : Option Halves) → HalvesWhole rate (on_halves rate o) → HalvesBelow (on_halves rate o)
    → LeadsOn rate (Touches rate k) (λ n. n) (on_halves rate o) (on_halves rate (option_map (halves_touched k) o))
on_leads rate k (Some h) whole below = halves_lead rate k h whole below
on_leads rate k None whole below = record {
  reached = λ pn. (λ t i. halves_none rate t i.1, λ s t i w. halves_none rate s i.1);
  whole = whole;
  few = λ n few. few;
}

pub touch_leads : (deck : Option Deck) (k : Kept) (v : States) → AreWhole (states_rate v) v → AreBelow v
    → AllLeadOn (profile_of deck v) (Touches (states_rate v) k) (λ n. n) v (states_touched k v)
touch_leads deck k v whole below =
    let rate : Rate = states_rate v in let w : States = states_touched k v in
    let off = halves_lead rate k v.off whole.off below.off in let on = on_leads rate k v.on whole.on below.on in
    let same : states_rate w ≡ rate = whole_rate rate (halves_touched k v.off) off.whole in
    record {
      reached = by_panel (Touches rate k) (λ s t w. w.panel) v w (off.reached false)
          (subst (λ r. AreReached (InHalves true (on_halves rate v.on)) (Touches rate k) (InHalves true (on_halves r w.on))) (sym same) (on.reached true));
      profile = grind (arith, same);
      whole = record { off = off.whole; on = on.whole };
      few = λ n few. both_few n w (off.few n (few false)) (subst (λ r. HalvesFew n (on_halves r w.on)) (sym same) (on.few n (few true)));
    }

-- a tracker of them
pub touched_tracked : (deck : Option Deck) (k : Kept) (n : Presets) (v : States) → AreTracked n v → AreBelow v → AreTracked n (states_touched k v)
touched_tracked deck k n v kept below =
    let led = touch_leads deck k v kept.whole below in
    record { whole = whole_at_rate (profile_of deck v) (states_touched k v) led.profile led.whole; few = led.few n kept.few }
