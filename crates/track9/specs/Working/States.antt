-- How a set of states changes.
use Rattle.std.specs.Prelude.{if◌then◌else◌, ◌+◌, ◌||◌, ◌≡◌, ◌≤◌}
use Rattle.track9.specs.Working.Deck.{AreReached, begin_count, BelowDay, Bool, Change, count_of, Deck, Drift, Effect, entries_of, false, Hands}
use Rattle.track9.specs.Working.Deck.{in_local, InPart, Mode, ModeSet, None, Option, Part, Possible, Presets, Profile, Rate}
use Rattle.track9.specs.Working.Deck.{Register, Some, State, States, Status, true, Halves, ℕ}
use Rattle.track9.specs.Working.Deck.{Forgets, Forgotten}
use Rattle.deck9.specs.declared.going.Going.{Going}
use Rattle.deck9.specs.declared.going.Lost.{Lost}
use Rattle.track9.specs.Working.Acting.{Acted, quiet}
use Rattle.deck9.specs.declared.deck.Forgotten.TheVariants as forgotten
use Rattle.deck9.specs.declared.state.Hands.TheVariants as hands
use Rattle.track9.specs.Working.Deed.{Acts, counted, counts_after, DoesOrStays}
use Rattle.track9.specs.declared.deed.Deed.{Deed}
use Rattle.track9.specs.Working.Entries.{agreeing}
use Rattle.track9.specs.Working.Pairs.{all_pairs}
use Rattle.track9.specs.Working.Parts.{lost_part, Whole, all_states, aside, changed_entries, changed_part, drifted_part, forgotten_part, gone_part, kept_or_gone_part, part_remains, no_states, put_settled, part_rate, status_part, where_remains, with_pairs}

-- ---- the states with one value of the panel

-- no state, or every state
abbrev pub all_or_none : Rate → Bool → Halves
all_or_none rate true = record { remote = all_states rate; local = all_states rate }
all_or_none rate false = record { remote = no_states rate; local = no_states rate }

-- the rate whose times the states have
abbrev pub halves_rate : Halves → Rate
halves_rate h = part_rate h.remote

-- there is a state
abbrev pub halves_remain : Halves → Bool
halves_remain h = part_remains h.remote || part_remains h.local

-- a state is one of these, with this value of the panel
abbrev pub InHalves : Bool → Halves → State → Type 0
InHalves pn h s = (s.panel ≡ pn) × InPart (in_local h s.local) s

-- what is true of both parts
pub record HalvesWhole (rate : Rate) (h : Halves) : Type 0 where
  pub remote : Whole rate h.remote
  pub local : Whole rate h.local

abbrev pub HalvesBelow : Halves → Type 0
HalvesBelow h = (l : Bool) (r : Register) → BelowDay (entries_of r (in_local h l)).rate (entries_of r (in_local h l)).times

-- in each part the times of a register begin at most once more than there were presets to it
abbrev pub HalvesFew : Presets → Halves → Type 0
HalvesFew n h = (l : Bool) (r : Register) → begin_count (entries_of r (in_local h l)).rate (entries_of r (in_local h l)).times ≤ count_of r n + 1

-- each part changes by its value of local
abbrev pub map_halves : (Bool → Part → Part) → Halves → Halves
map_halves f h = record { remote = f false h.remote; local = f true h.local }

-- a drift of the mechanics
abbrev pub halves_drifted : Acted → Halves → Halves
halves_drifted acted h = map_halves (λ local. drifted_part acted) h

-- registers may have been lost
abbrev pub halves_lost : Lost → Halves → Halves
halves_lost lost h = map_halves (λ local. where_remains (lost_part lost)) h

-- a drift, with what may be lost
abbrev pub halves_moved : Acted → Halves → Halves
halves_moved acted h = halves_drifted acted (halves_lost acted.on.lost h)

-- the deck is commanded to this mode, or leaves it where it may
abbrev pub halves_gone : Bool → Mode → Halves → Halves
halves_gone may_stay goal h = map_halves (λ local. where_remains (gone_part (local || may_stay) goal)) h

-- the deck goes on as it was, or is commanded to one of these modes
abbrev pub halves_kept_or_gone : ModeSet → Halves → Halves
halves_kept_or_gone goals h = map_halves (λ local. where_remains (kept_or_gone_part goals)) h

-- a register changes: in place in the part whose sets may be large, and aside in the other, which has no state left where the
-- register is set at no time of the day
abbrev pub halves_changed : Bool → Register → Change → Halves → Halves
halves_changed may_stay r c h = record {
  remote = put_settled r (aside h.remote (changed_entries may_stay c (entries_of r h.remote))) h.remote;
  local = where_remains (changed_part true r c) h.local;
}

-- a register's time was read
abbrev pub halves_sensed : Register → Option ℕ → Halves → Halves
halves_sensed r time h = map_halves (λ local p. put_settled r (aside p (agreeing time (entries_of r p))) p) h

-- a status agrees with some states
abbrev pub halves_status : Status → Halves → Halves
halves_status status h = map_halves (λ local. where_remains (status_part local status)) h

-- what is forgotten
abbrev pub motion_forgotten : Halves → Halves
motion_forgotten h = map_halves (λ local. where_remains (with_pairs all_pairs)) h

abbrev pub registers_forgotten : Halves → Halves
registers_forgotten h = map_halves (λ local. where_remains forgotten_part) h

abbrev pub all_forgotten : Halves → Halves
all_forgotten h = if halves_remain h then all_or_none (halves_rate h) true else h

abbrev pub halves_forgotten : Forgotten → Halves → Halves
halves_forgotten forgotten.Nothing h = h
halves_forgotten forgotten.Motion h = motion_forgotten h
halves_forgotten forgotten.Registers h = registers_forgotten h
halves_forgotten forgotten.Tape h = motion_forgotten (registers_forgotten h)
halves_forgotten forgotten.Everything h = all_forgotten h

-- the rules, or this deck, at a rate, where nobody touches the panel
abbrev pub untouched : Option Deck → Rate → Profile
untouched deck rate = record { rate = rate; hands = hands.None; deck = deck }

-- the states after what leads from a state to others
pub record LeadsOn (rate : Rate) (Goes : State → State → Type 0) (count : Presets → Presets) (h g : Halves) : Type 0 where
  pub reached : (pn : Bool) → AreReached (InHalves pn h) Goes (InHalves pn g)
  pub whole : HalvesWhole rate g
  pub few : (n : Presets) → HalvesFew n h → HalvesFew (count n) g

-- the states after an effect
abbrev pub HasEffect : Option Deck → Rate → Bool → Effect → Halves → Halves → Type 0
HasEffect deck rate may_stay e h g = LeadsOn rate (DoesOrStays (untouched deck rate) may_stay e) (counted e) h g

-- a drift, and then a step
abbrev pub DriftsAndGoes : (Profile → State → State → Type 0) → Profile → Going → State → State → Type 0
DriftsAndGoes Goes p on s t = (d : State) × Drift p on s d × Goes p d t

-- the states after a drift and a deed, where nobody touches the panel
abbrev pub Taken : Acted → Rate → Deed → Halves → Halves → Type 0
Taken acted rate d h g = LeadsOn rate (DriftsAndGoes (Acts d) (untouched acted.deck rate) acted.on) (counts_after d) h g

-- the same where no register is lost
abbrev pub TakenQuietly : Acted → Rate → Deed → Halves → Halves → Type 0
TakenQuietly acted rate d h g = LeadsOn rate (DriftsAndGoes (Acts d) (untouched acted.deck rate) (quiet acted.on)) (counts_after d) h g

-- ---- all states

-- whether hands are allowed
abbrev pub hands_by : Option Halves → Hands
hands_by None = hands.None
hands_by (Some h) = hands.Allowed

abbrev pub hands_of : States → Hands
hands_of v = hands_by v.on

-- the rate whose times they have
abbrev pub states_rate : States → Rate
states_rate v = halves_rate v.off

abbrev pub profile_of : Option Deck → States → Profile
profile_of deck v = record { rate = states_rate v; hands = hands_of v; deck = deck }

-- those with the panel on
abbrev pub on_halves : Rate → Option Halves → Halves
on_halves rate None = all_or_none rate false
on_halves rate (Some h) = h

-- those with this value of the panel
abbrev pub halves_of : States → Bool → Halves
halves_of v false = v.off
halves_of v true = on_halves (states_rate v) v.on

-- the part of the states with these values of local and of panel
abbrev pub part_of : States → Bool → Bool → Part
part_of v l pn = in_local (halves_of v pn) l

-- what is true of each part
pub record AreWhole (rate : Rate) (v : States) : Type 0 where
  pub off : HalvesWhole rate v.off
  pub on : HalvesWhole rate (on_halves rate v.on)

pub record AreBelow (v : States) : Type 0 where
  pub off : HalvesBelow v.off
  pub on : HalvesBelow (on_halves (states_rate v) v.on)

abbrev pub AreFew : Presets → States → Type 0
AreFew n v = (pn : Bool) → HalvesFew n (halves_of v pn)

-- there is a state with the panel on
abbrev pub remains_with_panel_on : States → Bool
remains_with_panel_on v = halves_remain (on_halves (states_rate v) v.on)

-- there is a state
abbrev pub states_remain : States → Bool
states_remain v = halves_remain v.off || remains_with_panel_on v

-- the states before the capture
abbrev pub first_on : Rate → Hands → Option Halves
first_on rate hands.None = None
first_on rate hands.Allowed = Some (all_or_none rate true)

abbrev pub first_states : Rate → Hands → States
first_states rate h = record { off = all_or_none rate true; on = first_on rate h }

-- the states after a drift, put together whatever the panel: where it may have been on, a hand may have done anything
abbrev pub either_panel : Acted → States → Halves
either_panel acted v = if remains_with_panel_on v then all_or_none (states_rate v) true else halves_moved acted v.off

-- the panel is switched on or off, after a drift
abbrev pub switched : Rate → Bool → Halves → States
switched rate true h = record { off = all_or_none rate false; on = Some h }
switched rate false h = record { off = h; on = Some (all_or_none rate false) }

abbrev pub after_panel : Acted → Bool → States → States
after_panel acted on v = switched (states_rate v) on (either_panel acted v)

-- the states after a drift
abbrev pub all_drifted : Acted → States → States
all_drifted acted v = record { off = halves_moved acted v.off; on = Some (all_or_none (states_rate v) (remains_with_panel_on v)) }

-- the panel is switched on or off, after a drift, or stays: what it may be switched to has all states, and the rest is as it was
abbrev pub panel_passed : Acted → Bool → States → States
panel_passed acted true v = record (all_drifted acted v) { on = Some (either_panel acted v) }
panel_passed acted false v = record (all_drifted acted v) { off = either_panel acted v }

-- what holds inside a tracker
pub record AreTracked (n : Presets) (v : States) : Type 0 where
  pub whole : AreWhole (states_rate v) v
  pub few : AreFew n v

-- the states after what leads from a state to others
pub record AllLeadOn (p : Profile) (Goes : State → State → Type 0) (count : Presets → Presets) (v w : States) : Type 0 where
  pub reached : AreReached (Possible v) Goes (Possible w)
  pub profile : profile_of p.deck w ≡ p
  pub whole : AreWhole p.rate w
  pub few : (n : Presets) → AreFew n v → AreFew (count n) w

-- the states after a drift and a deed
abbrev pub Follows : Profile → Going → Deed → States → States → Type 0
Follows p on d v w = AllLeadOn p (DriftsAndGoes (Acts d) p on) (counts_after d) v w

-- the states after something is forgotten, whatever deck it is
abbrev pub AreForgotten : Forgotten → States → States → Type 0
AreForgotten forgotten v w = (deck : Option Deck) → AllLeadOn (profile_of deck v) (Forgets (profile_of deck v) forgotten) (λ n. n) v w
