use Rattle.sheet9.proofs.Words.{[], List, members_view, nat_cmp, ℕ, ◌≡◌}
use Rattle.std.specs.BTreeMap.{get}
use Rattle.std.specs.Prelude.{option_map}
use Rattle.sheet9.specs.Entries.{entries_of, said_at}
use Rattle.sheet9.proofs.entries.read_entries.Given as goal

-- what is said so far is in the map, and with the entries that are left it says what all of them say
abbrev pub invariant-entries : goal.invariant-entries
invariant-entries g l =
    (said : List (ℕ × g.V.EntryValue.Said)) × ((head : ℕ) → option_map g.V.EntryValue.said (get nat_cmp l.said head) ≡ said_at said head)
    × (entries_of g.V.EntryValue.table said (members_view l.key-iterator) ≡ entries_of g.V.EntryValue.table [] (members_view l.fn.entries.entries))
