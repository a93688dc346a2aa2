use Rattle.std.proofs.Common.{codes, List, rules, ℕ}
use Rattle.block9.specs.declared.nak.NakBits.{NakBits}
use Rattle.bitflags.specs.declared.traits.Flag.{Flag}
use Rattle.deck9.specs.Status.{has_bit}
use Rattle.report9.proofs.Rows.{mapped_more}
use Rattle.report9.proofs.explanation.asked.put_nak_names.Goals as goal

pub loop-flag-preserved : goal.loop-flag-preserved
loop-flag-preserved c =
    let more = mapped_more {A = Flag NakBits} {B = List ℕ × ℕ} (λ f. (f.name.now, f.value.0)) (λ row. has_bit row.1 c.args.nak.0) (λ row. row.0)
    c.flags-flag-items.result.now c.loop-flag.flag-index _ c.loop-flag.before.now _ (codes "+") c.loop-flag.line.items _ _ c.loop-flag-test.true
    c.loop-flag.invariant.1 (rw (c.contains.ensures tt) at c.in_ok-before.ensures.text) (rw (c.contains.ensures tt) at c.in_ok-before.ensures.next) in
    (search rules, more)
