-- There are no spans, or two in the first list, or one there and one after it.
use Rattle.sets25.proofs.Lemmas.{arith, nat_tests, only_span-none}
use Rattle.sets25.proofs.span_list.SpanList.only.Goals as goal
use Rattle.sets25.proofs.span_list.SpanList.only.Goals.{else-len-eq1-via-else-len-eq1, else-len-eq1-via-then-len-eq1+else-is_empty}

pub returns-else-len-eq1 : goal.returns-else-len-eq1
returns-else-len-eq1 c =
    only_span-none c.args.self.now.first.items c.args.self.now.rest.items c.args.self.now.filled c.args.self.now.begun (λ one. grind (arith, nat_tests))
