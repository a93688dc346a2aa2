use Rattle.sheet9.proofs.Words.{encode_utf8_all, escaped, HasWritten, IsPlainFormatter, List, ℕ, ◌++◌, ◌≡◌, ◌≤◌}
use Rattle.std.specs.Char.Iter.{escape_byte_rest, escape_byte_left, escape_byte_end}
use Rattle.sheet9.proofs.quoted.write_byte.Given as goal

abbrev pub invariant-loop-escaped : goal.invariant-loop-escaped
invariant-loop-escaped g l =
    (escape_byte_end l.rest ≤ 4)
    × (IsPlainFormatter l.fn.f
    → (done : List ℕ) × HasWritten g.W.Write.write_str_gives l.fn.f done l.f × (done ++ encode_utf8_all (escape_byte_rest l.rest) ≡ escaped l.byte))

abbrev pub decreases-loop-escaped : goal.decreases-loop-escaped
decreases-loop-escaped g l = escape_byte_left l.rest
