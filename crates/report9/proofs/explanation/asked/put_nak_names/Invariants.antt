use Rattle.std.proofs.Common.{◌≡◌, ◌++◌, codes, drop, map}
use denote.Text.{Utf8}
use denote.Shadow.{shadow}
use Rattle.block9.specs.Nak.{nak_bits}
use Rattle.block9.specs.declared.nak.NakBits.{NakBits}
use Rattle.bitflags.specs.declared.traits.Flag.{Flag}
use Rattle.report9.specs.Explanation.{names_set}
use Rattle.report9.specs.Row.{in_a_row}
use Rattle.report9.proofs.explanation.asked.put_nak_names.Given as goal

-- what stands there, with the names that are still to come, is the whole
abbrev pub invariant-loop-flag : goal.invariant-loop-flag
invariant-loop-flag l = shadow (Utf8 l.before)
    × (l.line.items ++ in_a_row l.before (codes "+") (names_set l.nak.0 (map (λ (f : Flag NakBits). (f.name.now, f.value.0)) (drop l.flag-index l.flag-items)))
    ≡ l.fn.line.items ++ in_a_row (codes " ") (codes "+") (names_set l.nak.0 nak_bits))
