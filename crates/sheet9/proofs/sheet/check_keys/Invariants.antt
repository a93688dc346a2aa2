use Rattle.sheet9.proofs.Words.{members_view, unknown_key, ◌≡◌}
use Rattle.sheet9.proofs.sheet.check_keys.Given as goal

abbrev pub invariant-keys : goal.invariant-keys
invariant-keys l = unknown_key (members_view l.key-iterator) ≡ unknown_key (members_view l.fn.top.entries)
