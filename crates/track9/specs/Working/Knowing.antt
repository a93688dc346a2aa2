-- How what is known of a set of states is put together.
use Rattle.std.specs.Prelude.{if◌then◌else◌, ◌==◌, ◌≡◌, ◌≢◌}
use Rattle.track9.specs.Working.Deck.{Allows, At, Bool, Clear, either, entries_of, Entry, false, is_set, Known, KnownEntry, ModeSet, None, Option, Part, Register, Some}
use Rattle.track9.specs.Working.Deck.{States, true, Halves}
use Rattle.deck9.specs.declared.knowledge.Known.TheVariants as known
use Rattle.deck9.specs.declared.knowledge.KnownEntry.TheVariants as entry
use Rattle.track9.specs.Working.Pairs.{goals_of, all_shown}
use Rattle.track9.specs.Working.Parts.{part_remains}
use Rattle.track9.specs.Working.States.{halves_of}

-- ---- modes

-- all goals, and all shown modes
abbrev pub halves_goals : Halves → ModeSet
halves_goals h = either (goals_of h.remote.pairs) (goals_of h.local.pairs)

abbrev pub halves_shown : Halves → ModeSet
halves_shown h = either (all_shown h.remote.pairs) (all_shown h.local.pairs)

abbrev pub states_goals : States → ModeSet
states_goals v = either (halves_goals (halves_of v false)) (halves_goals (halves_of v true))

abbrev pub states_shown : States → ModeSet
states_shown v = either (halves_shown (halves_of v false)) (halves_shown (halves_of v true))

-- ---- facts

-- what is known of a fact that may be false, or true
abbrev pub known_fact : Bool → Bool → Known Bool
known_fact true true = known.Unknown
known_fact true false = known.Is false
known_fact false b = known.Is b

-- ---- registers

-- what is known of an entry that is one of these
abbrev pub KnowsOf : (Entry → Type 0) → KnownEntry → Type 0
KnowsOf E entry.Clear = (e : Entry) → E e → e ≡ Clear
KnowsOf E (entry.At t) = (e : Entry) → E e → e ≡ At t
KnowsOf E entry.SetSomewhere = ((e : Entry) → E e → is_set e ≡ true) × ((d e : Entry) × E d × E e × (d ≢ e))
KnowsOf E entry.Unknown = E Clear × ((e : Entry) × E e × (is_set e ≡ true))

-- what is known of an entry that is one of either
abbrev pub joined_known : KnownEntry → KnownEntry → KnownEntry
joined_known entry.Clear entry.Clear = entry.Clear
joined_known (entry.At t) (entry.At u) = if t == u then entry.At t else entry.SetSomewhere
joined_known (entry.At t) entry.SetSomewhere = entry.SetSomewhere
joined_known entry.SetSomewhere (entry.At t) = entry.SetSomewhere
joined_known entry.SetSomewhere entry.SetSomewhere = entry.SetSomewhere
joined_known _ _ = entry.Unknown

abbrev pub join_options : Option KnownEntry → Option KnownEntry → Option KnownEntry
join_options None b = b
join_options (Some k) None = Some k
join_options (Some k) (Some l) = Some (joined_known k l)

-- what a part tells of a register: nothing where it has no states
abbrev pub PartKnows : Part → Register → Option KnownEntry → Type 0
PartKnows p r None = part_remains p ≡ false
PartKnows p r (Some k) = (part_remains p ≡ true) × KnowsOf (Allows (entries_of r p)) k

-- what the parts of remote and of local tell together
abbrev pub HalvesKnow : Halves → Register → Option KnownEntry → Type 0
HalvesKnow h r o = (a b : Option KnownEntry) × PartKnows h.remote r a × PartKnows h.local r b × (o ≡ join_options a b)
