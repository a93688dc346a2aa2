-- The bytes so far were written.
use Rattle.capture9.proofs.Words.{HasWritten, IsPlainFormatter, map, printed, take}
use Rattle.capture9.proofs.shown_field.write_printed.Given as goal

abbrev pub invariant-loop-byte : goal.invariant-loop-byte
invariant-loop-byte g l = IsPlainFormatter l.initial.f → HasWritten g.W.Write.write_str_gives l.initial.f (map printed (take l.byte-index l.bytes)) l.f
