-- The states that a move of a hand leaves, factor by factor.
use Rattle.std.specs.Prelude.{if◌then◌else◌}
use Rattle.track9.specs.Working.Deck.{Bool, Entries, false, Halves, in_local, List, modes, ModeSet, not, option_map, Part, States, true}
use Rattle.track9.specs.Working.Entries.{all_entries}
use Rattle.track9.specs.Working.Pairs.{all_pairs, all_shown, goals_of, pairs_of}
use Rattle.track9.specs.Working.Parts.{where_remains}
use Rattle.track9.specs.declared.kept.Kept.{Kept}

-- goal and shown mode, where the one is kept, and the other
abbrev pub touched_pairs : Bool → Bool → List ModeSet → List ModeSet
touched_pairs true true p = p
touched_pairs true false p = pairs_of (goals_of p) (modes 0x3FF)
touched_pairs false true p = pairs_of (modes 0x3FF) (all_shown p)
touched_pairs false false p = all_pairs

abbrev pub touched_entries : Bool → Entries → Entries
touched_entries keep es = if keep then es else all_entries es.rate

abbrev pub touched_part : Kept → Part → Part
touched_part k p = record {
  pairs = touched_pairs k.goal k.shown p.pairs;
  ins = touched_entries k.ins p.ins;
  outs = touched_entries k.outs p.outs;
  ains = touched_entries k.ains p.ains;
  aouts = touched_entries k.aouts p.aouts;
}

-- where LOCAL is not kept the parts change places
abbrev pub touched_from : Kept → Halves → Bool → Part
touched_from k h local = where_remains (touched_part k) (in_local h (if k.local then local else not local))

abbrev pub halves_touched : Kept → Halves → Halves
halves_touched k h = record { remote = touched_from k h false; local = touched_from k h true }

abbrev pub states_touched : Kept → States → States
states_touched k v = record { off = halves_touched k v.off; on = option_map (halves_touched k) v.on }
