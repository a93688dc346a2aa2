-- How the states with one value of local and one of panel change.
use Rattle.std.specs.Prelude.{if◌then◌else◌, ◌&&◌, ◌≡◌}
use Rattle.track9.specs.Working.Pattern.{is_as_wanted}
use Rattle.track9.specs.Working.Deck.{Bool, Change, Entries, entries_of, InPart, List, Mode, ModeSet, None, Option, Part, RegAudioIn}
use Rattle.track9.specs.Working.Deck.{RegAudioOut, RegIn, Register, Rate, RegistersSet, RegOut, Some, State, Status, ℕ}
use Rattle.deck9.specs.declared.going.Lost.{Lost}
use Rattle.deck9.specs.Going.{may_lose}
use Rattle.track9.specs.declared.part.Clears.{Clears}
use Rattle.track9.specs.Working.Acting.{Acted}
use Rattle.track9.specs.Working.Entries.{agreeing, all_entries, changed, lost_entries, no_entries, set_entries, some_entry, widened}
use Rattle.track9.specs.Working.Pairs.{all_pairs, all_shown, drifted, gone, joined, masked, no_pairs, pairs_of, some_pair}

-- no state, and every state
abbrev pub no_states : Rate → Part
no_states rate = record { pairs = no_pairs; ins = no_entries rate; outs = no_entries rate; ains = no_entries rate; aouts = no_entries rate }

abbrev pub all_states : Rate → Part
all_states rate = record { pairs = all_pairs; ins = all_entries rate; outs = all_entries rate; ains = all_entries rate; aouts = all_entries rate }

-- the rate whose times a part has
abbrev pub part_rate : Part → Rate
part_rate p = p.ins.rate

-- there is a state, by the pairs alone
abbrev pub part_remains : Part → Bool
part_remains p = some_pair p.pairs

-- each factor has something in it, or none has, and the times of each are those of a rate
abbrev pub Whole : Rate → Part → Type 0
Whole rate p = (r : Register) → (some_entry (entries_of r p) ≡ part_remains p) × ((entries_of r p).rate ≡ rate)

-- a state of a part, with these values of local and of panel
pub record HasState (p : Part) (l pn : Bool) (s : State) : Type 0 where
  pub inside : InPart p s
  pub local : s.local ≡ l
  pub panel : s.panel ≡ pn

abbrev pub with_entries : Register → Entries → Part → Part
with_entries RegIn es p = record p { ins = es }
with_entries RegOut es p = record p { outs = es }
with_entries RegAudioIn es p = record p { ains = es }
with_entries RegAudioOut es p = record p { aouts = es }

abbrev pub with_pairs : List ModeSet → Part → Part
with_pairs pairs p = record p { pairs = pairs }

-- a part that has states is changed, one that has none stays
abbrev pub where_remains : (Part → Part) → Part → Part
where_remains f p = if part_remains p then f p else p

-- no state, where a factor has nothing
abbrev pub settled : Part → Part
settled p = if part_remains p && some_entry p.ins && some_entry p.outs && some_entry p.ains && some_entry p.aouts then p else no_states (part_rate p)

-- ---- what exchanges do

-- a drift of the mechanics
abbrev pub drifted_part : Acted → Part → Part
drifted_part acted p = with_pairs (drifted acted p.pairs) p

-- registers may have been lost
abbrev pub lost_part : Lost → Part → Part
lost_part lost p = record p {
  ins = lost_entries (may_lose lost RegIn) p.ins;
  outs = lost_entries (may_lose lost RegOut) p.outs;
  ains = lost_entries (may_lose lost RegAudioIn) p.ains;
  aouts = lost_entries (may_lose lost RegAudioOut) p.aouts;
}

-- whether each register may be Clear, and the part where each is so
abbrev pub clears_of : Part → Clears
clears_of p = record { ins = p.ins.may_clear; outs = p.outs.may_clear; ains = p.ains.may_clear; aouts = p.aouts.may_clear }

abbrev pub with_clears : Clears → Part → Part
with_clears clears p = record p {
  ins = record p.ins { may_clear = clears.ins };
  outs = record p.outs { may_clear = clears.outs };
  ains = record p.ains { may_clear = clears.ains };
  aouts = record p.aouts { may_clear = clears.aouts };
}

-- the deck is commanded to this mode, or leaves it where it may
abbrev pub gone_pairs : Bool → Mode → List ModeSet → List ModeSet
gone_pairs may_stay goal pairs = if may_stay then joined pairs (gone goal pairs) else gone goal pairs

abbrev pub gone_part : Bool → Mode → Part → Part
gone_part may_stay goal p = with_pairs (gone_pairs may_stay goal p.pairs) p

-- the deck goes on as it was, or is commanded to one of these modes
abbrev pub kept_or_gone : ModeSet → List ModeSet → List ModeSet
kept_or_gone goals pairs = joined pairs (pairs_of goals (all_shown pairs))

abbrev pub kept_or_gone_part : ModeSet → Part → Part
kept_or_gone_part goals p = with_pairs (kept_or_gone goals p.pairs) p

-- what becomes of a register's entries, or may where the deck may leave it
abbrev pub changed_entries : Bool → Change → Entries → Entries
changed_entries may_stay c es = if may_stay then widened c es else changed c es

abbrev pub changed_part : Bool → Register → Change → Part → Part
changed_part may_stay r c p = with_entries r (changed_entries may_stay c (entries_of r p)) p

-- a register's time was read
abbrev pub sensed_part : Register → Option ℕ → Part → Part
sensed_part r time p = settled (with_entries r (agreeing time (entries_of r p)) p)

-- ---- changes in two moves: what may need memory is made aside, and then put in place

-- something where the part has states
abbrev pub aside : {A : Type 0} → Part → A → Option A
aside p x = if part_remains p then Some x else None

-- entries that were made aside, in place, and no state where they are none
abbrev pub put_settled : Register → Option Entries → Part → Part
put_settled r None p = p
put_settled r (Some es) p = settled (with_entries r es p)

-- ---- status

-- the states with one of these modes shown, where they are reported
abbrev pub masked_part : Option ModeSet → Part → Part
masked_part None p = p
masked_part (Some mask) p = with_pairs (masked mask p.pairs) p

-- those with registers Set and Clear as these say
abbrev pub set_part : RegistersSet → Part → Part
set_part set p = record p {
  ins = set_entries set.ins p.ins;
  outs = set_entries set.outs p.outs;
  ains = set_entries set.ains p.ains;
  aouts = set_entries set.aouts p.aouts;
}

-- the registers as they are reported, where they are
abbrev pub set_where : Option RegistersSet → Part → Part
set_where None p = p
set_where (Some set) p = set_part set p

-- those with the reported modes and registers
abbrev pub reported_part : Status → Part → Part
reported_part status p = settled (set_where status.registers (masked_part status.shown p))

-- those with the reported LOCAL too, where it is this for each
abbrev pub status_part : Bool → Status → Part → Part
status_part local status p = if is_as_wanted status.local local then reported_part status p else no_states (part_rate p)

-- the registers are forgotten
abbrev pub forgotten_part : Part → Part
forgotten_part p = with_pairs p.pairs (all_states (part_rate p))
