use Rattle.report9.proofs.Words.{[], bytes_of, drop, hex_bytes, shadow, Utf8, ◌++◌, ◌≡◌}
use Rattle.report9.proofs.why_text.break_lines.put_bytes.Given as goal

-- what stands there, with the bytes that are still to come, is the whole
abbrev pub invariant-loop-record : goal.invariant-loop-record
invariant-loop-record l = shadow (Utf8 l.before)
    × (l.line.items ++ hex_bytes l.before (bytes_of (drop l.record-index l.records)) ≡ l.fn.line.items ++ hex_bytes [] (bytes_of l.records))
