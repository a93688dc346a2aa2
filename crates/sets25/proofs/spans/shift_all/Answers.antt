-- Each span is read as it was, and moves.
use Rattle.sets25.proofs.Lemmas.{arith, canonical_at, common_steps, get_or, get_or_default, map_over_more, shifted_span, Span}
use Rattle.sets25.proofs.spans.shift_all.Goals as goal

pub shifted-requires : goal.shifted-requires
shifted-requires c =
    grind (arith, common_steps, canonical_at 0 c.args.spans.now c.requires c.loop-span.span-index (record { first = 0; last = 0 }) (omega arith))

pub loop-span-preserved : goal.loop-span-preserved
loop-span-preserved c =
    let ys = c.loop-span.spans in
    let i = c.loop-span.span-index in
    let d : Span = record { first = 0; last = 0 } in
    rw c.shifted.ensures (map_over_more (shifted_span c.args.rate c.args.direction) _ ys i (get_or ys i d) (omega arith) c.loop-span.invariant
    (get_or_default ys i d _ (omega arith)))
