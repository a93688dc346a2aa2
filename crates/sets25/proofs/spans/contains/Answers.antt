-- The first span that does not end before the frame has it, or none has.
use Rattle.sets25.proofs.Lemmas.{arith, covered_at, drop_all, drop_more, nat_tests}
use Rattle.sets25.proofs.spans.contains.Goals as goal

pub returns-then-index-spans : goal.returns-then-index-spans
returns-then-index-spans c = grind (
  arith,
  nat_tests,
  drop_more,
  covered_at c.args.frame c.args.spans.now c.requires c.place_of-index.result
      c.place_of-index.ensures,
)

pub returns-else-index-spans : goal.returns-else-index-spans
returns-else-index-spans c = grind (
  arith,
  nat_tests,
  drop_all,
  covered_at c.args.frame c.args.spans.now c.requires c.place_of-index.result
      c.place_of-index.ensures,
)
