use Rattle.std.proofs.Common.{codes, drop, ◌++◌, ◌≡◌}
use Rattle.report9.specs.Bytes.{hex_bytes}
use Rattle.report9.proofs.exchange_bytes.block_bytes.put_data.Given as goal

-- what stands there, with the bytes that are still to come, is the whole
abbrev pub invariant-loop-byte : goal.invariant-loop-byte
invariant-loop-byte l = l.line.items ++ hex_bytes (codes " ") (drop l.byte-index l.bytes) ≡ l.fn.line.items ++ hex_bytes (codes " ") l.bytes
