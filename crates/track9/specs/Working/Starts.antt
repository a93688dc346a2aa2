-- The states that a deck may start from, factor by factor.
use Rattle.std.specs.Prelude.{if◌then◌else◌}
use Rattle.track9.specs.Working.Deck.{At, bit_of, Bool, Clear, Entries, Entry, false, just_of, Mode, modes, ModeSet, None, Option, Part, Rate, Some, States, true, Halves}
use Rattle.track9.specs.Working.Pattern.{is_as_wanted}
use Rattle.track9.specs.Working.Entries.{all_entries, entries}
use Rattle.track9.specs.Working.Pairs.{pairs_of}
use Rattle.track9.specs.Working.Parts.{no_states, settled}
use Rattle.track9.specs.declared.start.Start.{Start}
use Rattle.std.specs.FinSet as set

-- the mode that is known, or any
abbrev pub modes_known : Option Mode → ModeSet
modes_known None = modes 0x3FF
modes_known (Some m) = modes (bit_of m)

-- the entry that is known, or any
abbrev pub entries_known : Rate → Option Entry → Entries
entries_known rate None = all_entries rate
entries_known rate (Some Clear) = entries rate true set.empty
entries_known rate (Some (At t)) = entries rate false (just_of rate t)

-- the states with what is known, whatever their local
abbrev pub part_known : Rate → Start → Part
part_known rate k = record {
  pairs = pairs_of (modes_known k.goal) (modes_known k.shown);
  ins = entries_known rate k.ins;
  outs = entries_known rate k.outs;
  ains = entries_known rate k.ains;
  aouts = entries_known rate k.aouts;
}

-- those with this value of local: none where another is known, or where a time that is known is outside the day
abbrev pub part_from : Rate → Start → Bool → Part
part_from rate k local = if is_as_wanted k.local local then settled (part_known rate k) else no_states rate

abbrev pub halves_from : Rate → Start → Halves
halves_from rate k = record { remote = part_from rate k false; local = part_from rate k true }

abbrev pub states_from : Rate → Start → States
states_from rate k = record { off = halves_from rate k; on = None }
