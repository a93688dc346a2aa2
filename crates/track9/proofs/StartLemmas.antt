-- The states that a deck may start from, where some fields are known: exactly those, and what a tracker of them keeps.
use Rattle.track9.proofs.Words.{both, Deck, nat_cmp, entries_of, entry_of, goals_of, has-and, HasState, is_some, List, masked, mode_some, Part, Register}
use Rattle.track9.proofs.BeforeLemmas.{as_wanted}
use Rattle.track9.proofs.EffectLemmas.{masked_has}
use Rattle.track9.proofs.Words.{Allows, and_from, and_parts, AreBelow, arith, begin_count-empty, begin_count-every_time, Bool}
use Rattle.track9.proofs.Words.{cond_both, entries_known, Entry, false, has, has_pair, if◌then◌else◌, in_local, InPart, is_as_wanted, IsEntry, IsFirst, IsIn}
use Rattle.track9.proofs.Words.{AreTracked, IsState, Mode, modes_known, ModeSet, no_states, None, Option, part_from, part_known}
use Rattle.track9.proofs.Words.{Possible, Presets, refl, RegAudioIn, RegAudioOut, RegIn, RegOut, Some, Start, StartsFrom, State, states_from}
use Rattle.track9.proofs.Words.{AreWhole, Rate, states_rate, settled, untouched, subst, sym, true, halves_from, Whole, Is, ◌↔◌, ◌∙◌, ◌≡◌}
use Rattle.std.specs.FinSet as set
use Rattle.track9.proofs.KnownLemmas.{goal_to}
use Rattle.track9.proofs.EntryLemmas.{just_is, just_self, pairs_have}
use Rattle.track9.proofs.PartLemmas.{both_few, entry_exactly, few_just, few_no_states, few_settled, few_halves, FewIn, in_none, of_rate, OfRate, possible, possible_state, settled_exactly, whole_none, whole_settled, whole_halves}

-- ---- each field

-- a mode is one of those that are known
mode_exactly : (o : Option Mode) (m : Mode) → (has (modes_known o).0 m ≡ true) ↔ Is o m
mode_exactly o m = grind arith

-- an entry is as it is known
entry_is_known : (rate : Rate) (o : Option Entry) (e : Entry) → Allows (entries_known rate o) e → Is o e
entry_is_known rate o e a = grind (arith, set.contains-empty nat_cmp, just_is)

known_entry : (rate : Rate) (o : Option Entry) (e : Entry) → IsEntry rate e → Is o e → Allows (entries_known rate o) e
known_entry rate o e valid w = grind (arith, entry_exactly, just_self)

-- ---- a part

part_starts : (rate : Rate) (k : Start) (s : State) → Is k.local s.local → InPart (part_known rate k) s → StartsFrom k s
part_starts rate k s local i = let pair = pairs_have (modes_known k.goal) (modes_known k.shown) s.goal s.shown in let r = i.registers in
    grind (arith, pair, i.pair, and_parts, mode_exactly, entry_is_known rate, r RegIn, r RegOut, r RegAudioIn, r RegAudioOut)

starts_in : (rate : Rate) (k : Start) (s : State) → IsState rate s → StartsFrom k s → InPart (part_known rate k) s
starts_in rate k s valid w = grind (arith, pairs_have, and_from, mode_exactly, known_entry)

of_known : (rate : Rate) (k : Start) → OfRate rate (part_known rate k)
of_known rate k r = grind arith

few_part : (rate : Rate) (n : Presets) (k : Start) → FewIn n (part_known rate k)
few_part rate n k r = grind (arith, begin_count-every_time, begin_count-empty, few_just)

-- ---- the parts with each value of local

by_local : (rate : Rate) (k : Start) (l : Bool) → in_local (halves_from rate k) l ≡ part_from rate k l
by_local rate k l = grind arith

whole_from : (rate : Rate) (k : Start) (l : Bool) → Whole rate (part_from rate k l)
whole_from rate k l r = grind (arith, whole_settled rate (part_known rate k) (of_known rate k) r, whole_none rate r)

few_from : (rate : Rate) (n : Presets) (k : Start) (l : Bool) → FewIn n (part_from rate k l)
few_from rate n k l r = grind (arith, few_settled n (part_known rate k) (few_part rate n k) r, few_no_states rate n r)

from_starts : (rate : Rate) (k : Start) (s : State) → InPart (part_from rate k s.local) s → StartsFrom k s
from_starts rate k s i = cond_both (is_as_wanted k.local s.local) (settled (part_known rate k)) (no_states rate) (λ q. InPart q s → StartsFrom k s)
    (λ e i. part_starts rate k s ((as_wanted k.local s.local).0 e) ((settled_exactly (part_known rate k) s).0 i)) (λ e i. in_none rate s i) i

starts_from : (rate : Rate) (k : Start) (s : State) → IsState rate s → StartsFrom k s → InPart (part_from rate k s.local) s
starts_from rate k s valid w = rw ((as_wanted k.local s.local).1 w.local) ((settled_exactly (part_known rate k) s).1 (starts_in rate k s valid w))

-- the rate of the states
pub from_rate : (rate : Rate) (k : Start) → states_rate (states_from rate k) ≡ rate
from_rate rate k = of_rate rate (part_from rate k false) (whole_from rate k false) RegIn

-- ---- all states

start_whole : (rate : Rate) (k : Start) → AreWhole (states_rate (states_from rate k)) (states_from rate k)
start_whole rate k = subst (λ other. AreWhole other (states_from rate k)) (sym (from_rate rate k)) (record {
  off = record { remote = whole_from rate k false; local = whole_from rate k true };
  on = whole_halves rate false;
})

pub start_tracked : (rate : Rate) (k : Start) (n : Presets) → AreTracked n (states_from rate k)
start_tracked rate k n = record {
  whole = start_whole rate k;
  few = both_few n (states_from rate k) (λ l. rw (by_local rate k l) (few_from rate n k l)) (few_halves (states_rate (states_from rate k)) n false);
}

pub start_exactly : (deck : Option Deck) (rate : Rate) (k : Start) (s : State) → AreBelow (states_from rate k)
    → Possible (states_from rate k) s ↔ (IsFirst (untouched deck rate) s × StartsFrom k s)
start_exactly deck rate k s below = (
  λ i. let valid = subst (λ other. IsState other s) (from_rate rate k)
      (possible_state (states_rate (states_from rate k)) (states_from rate k) s (start_whole rate k) below i) in by_panel s.panel refl valid i,
  λ w. possible (states_from rate k) s s.local false refl w.0.1 (rw (by_local rate k s.local) (starts_from rate k s w.0.0 w.1)),
)
  where
    by_panel : (pn : Bool) → s.panel ≡ pn → IsState rate s → IsIn (if pn then None else Some (halves_from rate k)) s → IsFirst (untouched deck rate) s × StartsFrom k s
    by_panel false off valid i = ((valid, off), from_starts rate k s (subst (λ p. InPart p s) (by_local rate k s.local) i))
    by_panel true on valid i = absurd i

-- ---- some state of which this is known

pub pair_there : (goal shown : Option Mode) (p : List ModeSet) → ((g m : Mode) × (has_pair p g m ≡ true) × Is goal g × Is shown m)
    → is_some (both (goals_of (masked (modes_known shown) p)) (modes_known goal)) ≡ true
pair_there goal shown p (g, m, pair, first, second) =
    let left = masked (modes_known shown) p in let has = masked_has (modes_known shown) p g m in let both_have = has-and (goals_of left).0 (modes_known goal).0 g in
    mode_some (both (goals_of left) (modes_known goal)) g
    (grind (arith, pair, has, (mode_exactly shown m).1 second, both_have, goal_to left g m, (mode_exactly goal g).1 first))

pub pair_parts : (goal shown : Option Mode) (p : List ModeSet) (g m : Mode) → has_pair (masked (modes_known shown) p) g m ≡ true → has (modes_known goal).0 g ≡ true
    → (has_pair p g m ≡ true) × Is goal g × Is shown m
pair_parts goal shown p g m h first =
    let w = and_parts (has_pair p g m) (has (modes_known shown).0 m) (sym (masked_has (modes_known shown) p g m) ∙ h) in
    (w.0, (mode_exactly goal g).0 first, (mode_exactly shown m).0 w.1)

-- the entry of a register that is known
abbrev pub entry_known : Register → Start → Option Entry
entry_known RegIn k = k.ins
entry_known RegOut k = k.outs
entry_known RegAudioIn k = k.ains
entry_known RegAudioOut k = k.aouts

-- there is no state where a register has no such entry
pub no_entry_known : (r : Register) (p : Part) (k : Start) (l pn : Bool) → (((e : Entry) × Allows (entries_of r p) e × Is (entry_known r k) e) → ⊥)
    → ((s : State) × HasState p l pn s × StartsFrom k s) → ⊥
no_entry_known r p k l pn none (s, there, w) = none (entry_of r s, there.inside.registers r, grind arith)
