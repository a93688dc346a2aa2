use Rattle.sheet9.proofs.Words.{members_view, own_ways, passes_of, ◌≡◌}
use Rattle.sheet9.proofs.passes.read_entries.Given as goal

-- the ways so far, with the entries that are left, are those with all of them
abbrev pub invariant-entries : goal.invariant-entries
invariant-entries l = passes_of l.ways (members_view l.key-iterator) ≡ passes_of own_ways (members_view l.fn.entries.entries)
