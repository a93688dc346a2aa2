use Rattle.sheet9.proofs.Words.{escaped, flat_map, HasWritten, IsPlainFormatter, take}
use Rattle.sheet9.proofs.quoted.write_escaped.Given as goal

abbrev pub invariant-loop-byte : goal.invariant-loop-byte
invariant-loop-byte g l = IsPlainFormatter l.initial.f → HasWritten g.W.Write.write_str_gives l.initial.f (flat_map escaped (take l.byte-index l.bytes)) l.f
