use Rattle.sheet9.proofs.Words.{line_after, take, ◌+◌, ◌≡◌, ◌≤◌}
use Rattle.sheet9.proofs.sheet.line_after.Given as goal

abbrev pub invariant-loop-byte : goal.invariant-loop-byte
invariant-loop-byte l = (l.line ≡ line_after (take l.byte-index l.bytes)) × (l.line ≤ 1 + l.byte-index)
