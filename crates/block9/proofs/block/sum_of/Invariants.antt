use Rattle.block9.proofs.Words.{sum, take, ◌%◌, ◌≡◌}
use Rattle.block9.proofs.block.sum_of.Given as goal

abbrev pub invariant-loop-byte : goal.invariant-loop-byte
invariant-loop-byte l = l.total ≡ sum (take l.byte-index l.bytes) % 256
