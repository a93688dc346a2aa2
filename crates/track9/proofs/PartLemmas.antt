-- The states of a part: registers put in place, parts with and without states, what each factor keeps, how often times
-- begin; and the states with one value of the panel, and all.
use Rattle.std.proofs.lemmas.Nat.{and_assoc, and_comm}
use Rattle.std.specs.Int.Bits.{or_add_and}
use Rattle.track9.proofs.Words.{bit_and, bit_or}
use Rattle.track9.proofs.Words.{agreeing, all_entries, all_has, all_or_none, all_pairs, all_states, Allows, AreBelow, AreFew, AreReached, AreWhole, arith}
use Rattle.track9.proofs.Words.{begin_count, begin_count-empty, begin_count-every_time, begin_count-insert, begin_count-just, begin_count-next, begin_count-prev}
use Rattle.track9.proofs.Words.{begin_count-span_count, begin_count-widened_next, begin_count-widened_prev, BelowDay, Bool, Change, changed_entries, changed_part}
use Rattle.track9.proofs.Words.{cond_both, count_of, counted, Drift, drift_from_pairs, drifted, drifted_part, drifted_with, Effect, Entries, entries_of, Entry, entry_of, false}
use Rattle.track9.proofs.Words.{false≢true, first_states, all_shown, has_pair, in_local, inl, InPart, inr, InHalves, part_remains, IsEntry, IsFirst, IsState}
use Rattle.track9.proofs.Words.{KeepsRest, List, Mode, modes, ModeSet, no_states, nothing_has, on_halves, one_more, Option, or_cases, PairReaches}
use Rattle.track9.proofs.Words.{kept_valid, pairs_from_drift, part_of, Part, Possible, Presets, refl, RegAudioIn, RegAudioOut, RegIn, Register, RegOut, set_entries, StaysOrLost}
use Rattle.track9.proofs.Words.{same_test, SetAt, settled, Some, some_entry, some_mode, some_pair, states_remain, halves_remain, span_count-in_day, State, States, subst, sym}
use Rattle.track9.proofs.Words.{Times, true, halves_drifted, halves_of, HalvesBelow, HalvesFew, Halves, HalvesWhole, Whole, with_entries, with_entry, with_pairs, ℕ, ◌&&◌, ◌+◌, ◌||◌}
use Rattle.track9.proofs.Words.{just_of, Profile, Rate, states_rate, halves_rate, part_rate, untouched, ◌↔◌, ◌∙◌, ◌≡◌, ◌≤◌}
use Rattle.deck9.specs.declared.going.Going.{Going}
use Rattle.track9.specs.Working.Acting.{Acted, quiet}
use Rattle.deck9.specs.declared.effect.Effect.TheVariants as effect
use Rattle.track9.proofs.EntryLemmas.{allowed_some, day_in, drifted_from, drifted_to, goes_from, in_day, no_entry, pair_by_goal, pairs_some, some_allowed}

-- ---- registers

-- register by register
pub each_register : (P : Register → Type 0) → P RegIn → P RegOut → P RegAudioIn → P RegAudioOut → (r : Register) → P r
each_register P a b c d r = grind arith

-- what is true of each register's entries and of its entry, where one's are put in place of which it is true
pub put_each : (P : Register → Entries → Entry → Type 0) (r : Register) (es : Entries) (p : Part) (e : Entry) (s : State)
    → ((q : Register) → P q (entries_of q p) (entry_of q s)) → P r es e
    → (q : Register) → P q (entries_of q (with_entries r es p)) (entry_of q (with_entry r e s))
put_each P r es p e s old new q = grind arith

-- entries alone, taken in this way
pub each_put : (P : Register → Entries → Type 0) (r : Register) (es : Entries) (p : Part) → ((q : Register) → P q (entries_of q p)) → P r es → (q : Register)
    → P q (entries_of q (with_entries r es p))
each_put P r es p old new q = grind arith

-- a state with another entry of a register, in the part with entries of which it is one, and in the part as it was
pub put_in : (r : Register) (es : Entries) (p : Part) (e : Entry) (s : State) → InPart p s → Allows es e → InPart (with_entries r es p) (with_entry r e s)
put_in r es p e s i a = record { pair = grind (arith, i.pair); registers = put_each (λ q. Allows) r es p e s i.registers a }

pub take_out : (r : Register) (es : Entries) (p : Part) (e : Entry) (s : State) → InPart (with_entries r es p) s → Allows (entries_of r p) e
    → InPart p (with_entry r e s)
take_out r es p e s i a = record { pair = grind (arith, i.pair); registers = λ q. grind (arith, i.registers q, a) }

pub read_put : (r : Register) (es : Entries) (p : Part) → entries_of r (with_entries r es p) ≡ es
read_put r es p = grind arith

pub put_same : (r : Register) (p : Part) → with_entries r (entries_of r p) p ≡ p
put_same r p = grind arith

-- an entry that is put in place is there, and the rest stays
pub record IsPut (r : Register) (e : Entry) (s : State) : Type 0 where
  pub entry : entry_of r (with_entry r e s) ≡ e
  pub again : with_entry r (entry_of r s) (with_entry r e s) ≡ s
  pub same : with_entry r (entry_of r s) s ≡ s
  pub local : (with_entry r e s).local ≡ s.local
  pub panel : (with_entry r e s).panel ≡ s.panel

pub put : (r : Register) (e : Entry) (s : State) → IsPut r e s
put r e s = grind arith

-- the state with another pair, in the part with other pairs
pub in_pairs : (p : Part) (q : List ModeSet) (t : State) (g m : Mode) → ((r : Register) → Allows (entries_of r p) (entry_of r t)) → has_pair q g m ≡ true
    → InPart (with_pairs q p) (record t { goal = g; shown = m })
in_pairs p q t g m old pair = record { pair = pair; registers = each_register _ (old RegIn) (old RegOut) (old RegAudioIn) (old RegAudioOut) }

-- the registers of a state of a part with other pairs
pub pairs_registers : (p : Part) (q : List ModeSet) (t : State) → InPart (with_pairs q p) t → (r : Register) → Allows (entries_of r p) (entry_of r t)
pairs_registers p q t h = let old = h.registers in each_register _ (old RegIn) (old RegOut) (old RegAudioIn) (old RegAudioOut)

-- ---- parts with states

-- a part with a state is live
pub state_live : (p : Part) (s : State) → InPart p s → part_remains p ≡ true
state_live p s h = pairs_some p.pairs s.goal s.shown h.pair

pub not_live : {P : Type 0} (p : Part) (s : State) → part_remains p ≡ false → InPart p s → P
not_live p s dead h = absurd (false≢true (sym dead ∙ state_live p s h))

-- a live part has a state, whatever its local and panel
pub a_state : (rate : Rate) (p : Part) (l pn : Bool) → Whole rate p → part_remains p ≡ true → (s : State) × InPart p s × (s.local ≡ l) × (s.panel ≡ pn)
a_state rate p l pn whole live =
    let m = some_mode (all_shown p.pairs) live in let g = goes_from p.pairs m.0 m.1 in let e = λ (r : Register). some_allowed (entries_of r p) ((whole r).0 ∙ live) in
    let a = e RegIn in let b = e RegOut in let c = e RegAudioIn in let d = e RegAudioOut in
    let s : State = record { goal = g.0; shown = m.0; ins = a.0; outs = b.0; ains = c.0; aouts = d.0; local = l; panel = pn } in
    (s, record { pair = g.1; registers = each_register _ a.1 b.1 c.1 d.1 }, refl, refl)

-- ---- every state, and none

pub entry_exactly : (rate : Rate) (e : Entry) → Allows (all_entries rate) e ↔ IsEntry rate e
entry_exactly rate e = grind (arith, in_day, day_in)

-- those with these pairs, and all of them
pub any_entries : (rate : Rate) (q : List ModeSet) (t : State) → InPart (with_pairs q (all_states rate)) t ↔ (IsState rate t × (has_pair q t.goal t.shown ≡ true))
any_entries rate q t = grind (arith, entry_exactly)

pub every_state : (rate : Rate) (t : State) → InPart (all_states rate) t ↔ IsState rate t
every_state rate t = grind (arith, any_entries rate all_pairs t, pair_by_goal (λ g. modes 0x3FF) t.goal t.shown, all_has t.shown)

pub in_none : {P : Type 0} (rate : Rate) (t : State) → InPart (no_states rate) t → P
in_none rate t h = absurd (false≢true (sym (pair_by_goal (λ g. modes 0) t.goal t.shown ∙ nothing_has t.shown) ∙ h.pair))

-- ---- a part without states is let go of

pub settled_exactly : (p : Part) (t : State) → InPart (settled p) t ↔ InPart p t
settled_exactly p t = (
  λ i. cond_both _ p (no_states (part_rate p)) (λ q. InPart q t → InPart p t) (λ e i. i) (λ e i. in_none (part_rate p) t i) i,
  λ i. let some = λ (r : Register). allowed_some (entries_of r p) (entry_of r t) (i.registers r) in
      grind (arith, i, state_live p t i, some RegIn, some RegOut, some RegAudioIn, some RegAudioOut),
)

-- ---- each factor of a part keeps something, or none does

pub whole_put : (rate : Rate) (r : Register) (es : Entries) (p : Part) → Whole rate p → some_entry es ≡ part_remains p → es.rate ≡ rate
    → Whole rate (with_entries r es p)
whole_put rate r es p old new same q = grind (arith, old q, new, same)

pub whole_pairs : (rate : Rate) (q : List ModeSet) (p : Part) → Whole rate p → some_pair q ≡ part_remains p → Whole rate (with_pairs q p)
whole_pairs rate q p old same = rw same (each_register _ (old RegIn) (old RegOut) (old RegAudioIn) (old RegAudioOut))

pub whole_all : (rate : Rate) → Whole rate (all_states rate)
whole_all rate = grind arith

pub whole_none : (rate : Rate) → Whole rate (no_states rate)
whole_none rate r = grind (arith, no_entry rate)

-- the entries of each register have the times of one rate
abbrev pub OfRate : Rate → Part → Type 0
OfRate rate p = (r : Register) → (entries_of r p).rate ≡ rate

pub of_rate : (rate : Rate) (p : Part) → Whole rate p → OfRate rate p
of_rate rate p whole r = (whole r).1

all_five : (a b c d e : Bool) → (a && b && c && d && e) ≡ true → (b ≡ a) × (c ≡ a) × (d ≡ a) × (e ≡ a)
all_five a b c d e h = grind arith

pub whole_settled : (rate : Rate) (p : Part) → OfRate rate p → Whole rate (settled p)
whole_settled rate p same = cond_both _ p (no_states (part_rate p)) (Whole rate)
    (λ e. let w = all_five _ _ _ _ _ e in each_register _ (w.0, same RegIn) (w.1, same RegOut) (w.2, same RegAudioIn) (w.3, same RegAudioOut))
    (λ e. subst (λ other. Whole rate (no_states other)) (sym (same RegIn)) (whole_none rate))

-- a drift leaves a state, and makes none from nothing
pub drift_some : (acted : Acted) (p : List ModeSet) → some_pair (drifted acted p) ≡ some_pair p
drift_some acted p = same_test (some_pair (drifted acted p)) (some_pair p)
    (λ h. let m = some_mode (all_shown (drifted acted p)) h in let g = goes_from (drifted acted p) m.0 m.1 in
    let w = drifted_from acted p g.0 m.0 (sym (pair_by_goal (drifted_with acted p) g.0 m.0) ∙ g.1) in pairs_some p w.0 w.1 w.2)
    (λ h. let m = some_mode (all_shown p) h in let g = goes_from p m.0 m.1 in pairs_some (drifted acted p) g.0 m.0
    (grind (arith, pair_by_goal (drifted_with acted p) g.0 m.0, drifted_to acted p g.0 m.0 g.0 m.0 g.1)))

-- all pairs stay all pairs
full : (w : ℕ) → bit_or 0x3FF (bit_and w 0x3FF) ≡ 0x3FF
full w = grind (arith, and_comm 0x3FF (bit_and w 0x3FF), and_assoc 0x3FF w 0x3FF, or_add_and 0x3FF (bit_and w 0x3FF))

pub all_drifted_pairs : (acted : Acted) → drifted acted all_pairs ≡ all_pairs
all_drifted_pairs acted = simp full

pub drifted_all : (acted : Acted) (rate : Rate) (b : Bool) → halves_drifted acted (all_or_none rate b) ≡ all_or_none rate b
drifted_all acted rate b = grind (arith, all_drifted_pairs)

pub whole_drift : (acted : Acted) (rate : Rate) (p : Part) → Whole rate p → Whole rate (drifted_part acted p)
whole_drift acted rate p whole = whole_pairs rate (drifted acted p.pairs) p whole (drift_some acted p.pairs)

-- ---- two parts

pub whole_halves : (rate : Rate) (b : Bool) → HalvesWhole rate (all_or_none rate b)
whole_halves rate b = grind (arith, whole_all rate, whole_none rate)

pub whole_in : (rate : Rate) (h : Halves) → HalvesWhole rate h → (l : Bool) → Whole rate (in_local h l)
whole_in rate h whole l = grind arith

-- the rate of what is whole
pub whole_rate : (rate : Rate) (h : Halves) → HalvesWhole rate h → halves_rate h ≡ rate
whole_rate rate h whole = (whole.remote RegIn).1

-- by the rate that they have
pub own_part : (rate : Rate) (p : Part) → Whole rate p → Whole (part_rate p) p
own_part rate p whole = subst (λ other. Whole other p) (sym (whole RegIn).1) whole

pub own_on : (v : States) (h : Halves) → AreWhole (states_rate v) v → v.on ≡ Some h → HalvesWhole (halves_rate h) h
own_on v h whole on = grind (arith, whole_rate (states_rate v) h, whole.on)

pub whole_of : (rate : Rate) (v : States) → AreWhole rate v → (pn : Bool) → HalvesWhole rate (halves_of v pn)
whole_of rate v whole pn = grind (arith, whole_rate rate v.off whole.off, whole.off, whole.on)

pub part_whole : (rate : Rate) (v : States) → AreWhole rate v → (l pn : Bool) → Whole rate (part_of v l pn)
part_whole rate v whole l pn = whole_in rate (halves_of v pn) (whole_of rate v whole pn) l

-- ---- how often the times of a register begin: at most once more than there were presets to it

-- no more beginnings than this
abbrev pub FewTimes : ℕ → Entries → Type 0
FewTimes n es = begin_count es.rate es.times ≤ n + 1

-- each register of a part, taken in this way
abbrev pub FewIn : Presets → Part → Type 0
FewIn n p = (r : Register) → FewTimes (count_of r n) (entries_of r p)

pub few_all_states : (rate : Rate) (n : Presets) → FewIn n (all_states rate)
few_all_states rate n = grind (arith, begin_count-every_time)

pub few_no_states : (rate : Rate) (n : Presets) → FewIn n (no_states rate)
few_no_states rate n = grind (arith, begin_count-empty)

-- one time of the day
pub few_just : (rate : Rate) (t : ℕ) → begin_count rate (just_of rate t) ≤ 1
few_just rate t = grind (arith, begin_count-just, begin_count-empty)

pub few_agreeing : (n : ℕ) (o : Option ℕ) (es : Entries) → FewTimes n (agreeing o es)
few_agreeing n o es = grind (arith, begin_count-empty, few_just)

pub few_set : (n : ℕ) (b : Bool) (es : Entries) → FewTimes n es → FewTimes n (set_entries b es)
few_set n b es h = grind (arith, begin_count-empty)

-- the presets to a register after one more change
abbrev pub counted_to : Change → ℕ → ℕ
counted_to (SetAt t) n = one_more n
counted_to _ n = n

-- a day has fewer beginnings than can be counted
few_in_day : (rate : Rate) (s : Times) → BelowDay rate s → begin_count rate s ≤ 1296000
few_in_day rate s below = grind (arith, begin_count-span_count rate s, span_count-in_day rate s below)

few_changed : (may_stay : Bool) (c : Change) (es : Entries) (n : ℕ) → BelowDay es.rate es.times → FewTimes n es
    → FewTimes (counted_to c n) (changed_entries may_stay c es)
few_changed may_stay c es n below h =
    grind (arith, few_in_day, few_just, begin_count-insert, begin_count-next, begin_count-widened_next, begin_count-prev, begin_count-widened_prev, begin_count-empty, begin_count-every_time)

pub few_settled : (n : Presets) (p : Part) → FewIn n p → FewIn n (settled p)
few_settled n p h = cond_both _ p (no_states (part_rate p)) (FewIn n) (λ e. h) (λ e. few_no_states (part_rate p) n)

pub few_put : (n : Presets) (r : Register) (es : Entries) (p : Part) → FewIn n p → FewTimes (count_of r n) es → FewIn n (with_entries r es p)
few_put n r es p old new q = grind (arith, old q, new)

-- the times of each register are times of the day
abbrev pub PartBelow : Part → Type 0
PartBelow p = (r : Register) → BelowDay (entries_of r p).rate (entries_of r p).times

-- what has to be known of the times of a part before an effect
abbrev pub Below : Effect → Part → Type 0
Below (effect.Change r c) p = PartBelow p
Below _ p = Unit {0}

pub few_counted : (e : Effect) (n : Presets) (p : Part) → Below e p → FewIn n p → FewIn (counted e n) p
few_counted e n p below h = grind (arith, few_in_day)

pub few_changed_part : (may_stay : Bool) (r : Register) (c : Change) (n : Presets) (p : Part) → PartBelow p
    → FewIn n p → FewIn (counted (effect.Change r c) n) (changed_part may_stay r c p)
few_changed_part may_stay r c n p below h q =
    grind (arith, few_changed may_stay c (entries_of r p) (count_of r n) (below r) (h r), h q, few_counted (effect.Change r c) n p below h q)

pub few_halves : (rate : Rate) (n : Presets) (b : Bool) → HalvesFew n (all_or_none rate b)
few_halves rate n b l r = grind (arith, few_all_states rate n r, few_no_states rate n r)

pub both_few : (n : Presets) (v : States) → HalvesFew n v.off → HalvesFew n (on_halves (states_rate v) v.on) → AreFew n v
both_few n v off on = grind arith

pub few_pairs : (n : Presets) (q : List ModeSet) (p : Part) → FewIn n p → FewIn n (with_pairs q p)
few_pairs n q p h = each_register _ (h RegIn) (h RegOut) (h RegAudioIn) (h RegAudioOut)

pub drift_few : (acted : Acted) (n : Presets) (h : Halves) → HalvesFew n h → HalvesFew n (halves_drifted acted h)
drift_few acted n h few l r = grind (arith, few l r)

pub drift_whole : (acted : Acted) (rate : Rate) (h : Halves) → HalvesWhole rate h → HalvesWhole rate (halves_drifted acted h)
drift_whole acted rate h whole = record { remote = whole_drift acted rate h.remote whole.remote; local = whole_drift acted rate h.local whole.local }

pub drift_below : (acted : Acted) (h : Halves) → HalvesBelow h → HalvesBelow (halves_drifted acted h)
drift_below acted h below l r = grind (arith, below l r)

-- every state is one of all, and none is one of none
pub all_exactly : (rate : Rate) (b : Bool) (t : State) → InPart (in_local (all_or_none rate b) t.local) t ↔ ((b ≡ true) × IsState rate t)
all_exactly rate b t = grind (arith, every_state rate t, in_none {P = ⊥} rate t)

pub halves_none : {P : Type 0} (rate : Rate) (t : State) → InPart (in_local (all_or_none rate false) t.local) t → P
halves_none rate t i = absurd (false≢true ((all_exactly rate false t).0 i).0)

pub possible : (v : States) (s : State) (l pn : Bool) → s.local ≡ l → s.panel ≡ pn → InPart (part_of v l pn) s → Possible v s
possible v s l pn el ep h = grind arith

pub impossible : (v : States) (s : State) (l pn : Bool) → s.local ≡ l → s.panel ≡ pn → Possible v s → InPart (part_of v l pn) s
impossible v s l pn el ep h = grind arith

-- the same, of those with one value of the panel
pub to_halves : (v : States) (s : State) (pn : Bool) → s.panel ≡ pn → Possible v s → InHalves pn (halves_of v pn) s
to_halves v s pn e h = (e, impossible v s s.local pn refl e h)

pub of_halves : (v : States) (s : State) (pn : Bool) → InHalves pn (halves_of v pn) s → Possible v s
of_halves v s pn h = possible v s s.local pn refl h.0 h.1

-- a step that keeps the panel is one of each value of it
pub by_panel : (Goes : State → State → Type 0) → ((s t : State) → Goes s t → t.panel ≡ s.panel) → (v w : States)
    → AreReached (InHalves false v.off) Goes (InHalves false w.off)
    → AreReached (InHalves true (on_halves (states_rate v) v.on)) Goes (InHalves true (on_halves (states_rate w) w.on)) → AreReached (Possible v) Goes (Possible w)
by_panel Goes keeps v w off on = (
  λ t h. let a = (each t.panel).0 t (to_halves w t t.panel refl h) in (a.0, of_halves v a.0 t.panel a.1, a.2),
  λ s t h goes. of_halves w t s.panel ((each s.panel).1 s t (to_halves v s s.panel refl h) goes),
)
  where
    each : (pn : Bool) → AreReached (InHalves pn (halves_of v pn)) Goes (InHalves pn (halves_of w pn))
    each false = off
    each true = on

-- ---- a drift

pub state_is : (rate : Rate) (p : Part) (s : State) → OfRate rate p → PartBelow p → InPart p s → IsState rate s
state_is rate p s same below i r = grind (arith, same r, below r, i.registers r)

-- where nobody touches the panel, and no register is lost, a drift is one of the mechanics: nothing but goal and shown mode differs
pub mechanics : (acted : Acted) (rate : Rate) (s t : State) → Drift (untouched acted.deck rate) (quiet acted.on) s t
    → (t ≡ record s { goal = t.goal; shown = t.shown }) × PairReaches acted.deck acted.on s.goal s.shown t.goal t.shown
mechanics acted rate s t d = elim (pairs_from_drift (untouched acted.deck rate) (quiet acted.on) s t d) [ inl w ↦ (kept_alone s t w.0, w.1) | inr hand ↦ cc ]
  where
    kept_alone : (s t : State) → KeepsRest (quiet acted.on) s t → t ≡ record s { goal = t.goal; shown = t.shown }
    kept_alone s t k =
        let ins = stays RegIn (k.registers RegIn) in let outs = stays RegOut (k.registers RegOut) in
        let ains = stays RegAudioIn (k.registers RegAudioIn) in let aouts = stays RegAudioOut (k.registers RegAudioOut) in
        rw (sym ins, sym outs, sym ains, sym aouts, sym k.local, sym k.panel) refl
      where
        stays : (r : Register) {e f : Entry} → StaysOrLost (quiet acted.on) r e f → f ≡ e
        stays r (inl same) = same
        stays r (inr (never, clear)) = absurd (false≢true never)

pub mechanics_drift : (acted : Acted) (rate : Rate) (s : State) (g m : Mode) → PairReaches acted.deck acted.on g m s.goal s.shown
    → Drift (untouched acted.deck rate) (quiet acted.on) (record s { goal = g; shown = m }) s
mechanics_drift acted rate s g m reach = drift_from_pairs (untouched acted.deck rate) (quiet acted.on) (record s { goal = g; shown = m }) s
    (inl (record { registers = each_register _ (inl refl) (inl refl) (inl refl) (inl refl); local = refl; panel = refl }, reach))

-- and it is one with hands too, unless the panel is on
pub same_drift : (p : Profile) (on : Going) (s t : State) → Drift (untouched p.deck p.rate) on s t → Drift p on s t
same_drift p on s t d = elim (pairs_from_drift (untouched p.deck p.rate) on s t d) [ inl w ↦ drift_from_pairs p on s t (inl w) | inr hand ↦ cc ]

pub off_drift : (p : Profile) (on : Going) (s t : State) → s.panel ≡ false → Drift p on s t → Drift (untouched p.deck p.rate) on s t
off_drift p on s t off d = elim (pairs_from_drift p on s t d) [
  | inl w ↦ drift_from_pairs (untouched p.deck p.rate) on s t (inl w)
  | inr w ↦ absurd (false≢true (sym off ∙ w.1))
]

-- a drift keeps the panel
pub drift_panel : (p : Profile) (on : Going) (s d : State) → Drift p on s d → d.panel ≡ s.panel
drift_panel p on s d drift = elim (pairs_from_drift p on s d drift) [ inl w ↦ w.0.panel | inr w ↦ w.2 ∙ sym w.1 ]

-- and leads from states of the day to such states
pub drift_state : (p : Profile) (on : Going) (s d : State) → IsState p.rate s → Drift p on s d → IsState p.rate d
drift_state p on s d valid drift = elim (pairs_from_drift p on s d drift) [ inl w ↦ kept_valid p.rate on s d w.0 valid | inr w ↦ w.3 ]

-- a state of a set is one of the day
pub possible_state : (rate : Rate) (v : States) (s : State) → AreWhole rate v → AreBelow v → Possible v s → IsState rate s
possible_state rate v s whole below i = grind arith

-- ---- both parts

-- a fact holds on one of two ways exactly where it holds on some
pub any_way : (f : Bool → Bool) (b : Bool) → f b ≡ true → (f false || f true) ≡ true
any_way f b h = grind arith

pub some_way : (f : Bool → Bool) → (f false || f true) ≡ true → (b : Bool) × (f b ≡ true)
some_way f h = grind (arith, or_cases)

-- a state is in a part that is live, and there is one, with any value of the panel, where a part is live
pub halves_live : (h : Halves) (s : State) → InPart (in_local h s.local) s → halves_remain h ≡ true
halves_live h s i = any_way (λ l. part_remains (in_local h l)) s.local (state_live (in_local h s.local) s i)

pub halves_state : (rate : Rate) (h : Halves) (pn : Bool) → HalvesWhole rate h → halves_remain h ≡ true → (s : State) × InHalves pn h s
halves_state rate h pn whole live =
    let l = some_way (λ l. part_remains (in_local h l)) live in
    let w = a_state rate (in_local h l.0) l.0 pn (whole_in rate h whole l.0) l.1 in (w.0, (w.3, subst (λ l. InPart (in_local h l) w.0) (sym w.2) w.1))

-- ---- all states

pub some_live : (v : States) (s : State) → Possible v s → states_remain v ≡ true
some_live v s i = any_way (λ pn. halves_remain (halves_of v pn)) s.panel (halves_live (halves_of v s.panel) s (impossible v s s.local s.panel refl refl i))

pub live_some : (rate : Rate) (v : States) → AreWhole rate v → states_remain v ≡ true → (s : State) × Possible v s
live_some rate v whole live =
    let pn = some_way (λ pn. halves_remain (halves_of v pn)) live in
    let w = halves_state rate (halves_of v pn.0) pn.0 (whole_of rate v whole pn.0) pn.1 in (w.0, of_halves v w.0 pn.0 w.1)

-- the first states
pub first_exactly : (p : Profile) (s : State) → Possible (first_states p.rate p.hands) s ↔ IsFirst p s
first_exactly p s = grind (arith, all_exactly p.rate true s)
