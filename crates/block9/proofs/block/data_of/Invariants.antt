use Rattle.block9.proofs.Words.{take, ◌≡◌}
use Rattle.block9.proofs.block.data_of.Given as goal

-- the data so far
abbrev pub invariant-loop-byte : goal.invariant-loop-byte
invariant-loop-byte l = l.copied.items ≡ take l.byte-index l.bytes
