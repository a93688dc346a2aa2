use Rattle.std.proofs.Common.{[], codes, drop, ◌++◌, ◌≡◌}
use denote.Shadow.{shadow}
use denote.Text.{Utf8}
use Rattle.deck9.specs.Mode.{every_mode, name_of}
use Rattle.deck9.specs.ModeSet.{has}
use Rattle.report9.specs.Row.{in_a_row, names_of}
use Rattle.report9.proofs.exchange_bytes.modes.put_names.Given as goal

-- what stands there, with the names that are still to come, is the whole
abbrev pub invariant-loop-mode : goal.invariant-loop-mode
invariant-loop-mode l = shadow (Utf8 l.before)
    × (l.line.items ++ in_a_row l.before (codes "|") (names_of (has l.modes.0) name_of (drop l.mode-index l.mode-items))
    ≡ l.fn.line.items ++ in_a_row [] (codes "|") (names_of (has l.modes.0) name_of every_mode))
