use Rattle.sheet9.proofs.Words.{[], List, members_view, nat_cmp, ℕ, ◌≡◌}
use Rattle.std.specs.BTreeMap.{get}
use Rattle.deck9.specs.declared.mode_set.ModeSet.{ModeSet}
use Rattle.sheet9.specs.Entries.{said_at}
use Rattle.sheet9.specs.Goals.{goals_of}
use Rattle.sheet9.proofs.goals.read_entries.Given as goal

-- what is said so far is in the map, and with the entries that are left it says what all of them say
abbrev pub invariant-entries : goal.invariant-entries
invariant-entries l =
    (said : List (ℕ × ModeSet)) × ((head : ℕ) → get nat_cmp l.said head ≡ said_at said head)
    × (goals_of (get nat_cmp l.fn.forgets) said (members_view l.key-iterator) ≡ goals_of (get nat_cmp l.fn.forgets) [] (members_view l.fn.entries.entries))
