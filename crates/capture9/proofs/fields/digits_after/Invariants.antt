-- The digits so far make the number so far, it leaves room for the rest, and the rest decides whether it is a number at all.
use Rattle.capture9.proofs.Words.{all_ascii_digits, decimal_value, drop, length, ◌*◌, ◌+◌, ◌^◌, ◌≡◌, ◌≤◌}
use Rattle.capture9.proofs.fields.digits_after.Given as goal

abbrev pub invariant-loop-byte : goal.invariant-loop-byte
invariant-loop-byte l = record {
  digits : all_ascii_digits l.digits ≡ all_ascii_digits (drop l.byte-index l.digits);
  value : l.fn.front * 10 ^ length l.digits + decimal_value l.digits
      ≡ l.time * 10 ^ length (drop l.byte-index l.digits) + decimal_value (drop l.byte-index l.digits);
  room : (l.time + 1) * 10 ^ length (drop l.byte-index l.digits) ≤ 10 ^ 15;
}
