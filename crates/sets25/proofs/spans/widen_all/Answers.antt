-- Each turn joins a span to the current one, or begins a new one.
use Rattle.sets25.proofs.Lemmas.{append_assoc, arith, canonical_at, drop-set-lt, drop_more, drop_more_same, get_or, glue-glue, nat_tests, Span, take_more_set, ◌≡◌}
use Rattle.sets25.proofs.spans.widen_all.Goals as goal
use Rattle.sets25.proofs.spans.widen_all.Goals.{else-span-current, then-span-current}

pub widened-span-requires : goal.widened-span-requires
widened-span-requires c =
    let d : Span = record { first = 0; last = 0 } in
    let span = canonical_at 0 c.args.spans.now c.requires c.loop-index.index d (omega arith) in
    grind (arith, drop_more)

pub loop-index-preserved : goal.loop-index-preserved
loop-index-preserved c =
    let xs = c.args.spans.now in
    let i = c.loop-index.index in
    let d : Span = record { first = 0; last = 0 } in
    let read : get_or c.loop-index.spans i d ≡ get_or xs i d = grind (arith, drop_more) in
    let span = canonical_at 0 xs c.requires i d (omega arith) in
    record {
      behind = omega arith;
      in_day = grind arith;
      to_come = grind (arith, drop-set-lt, drop_more_same);
      whole = grind (arith, nat_tests, drop_more xs i d, glue-glue, take_more_set, append_assoc);
    }
