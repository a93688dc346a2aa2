-- The span is put in its place, with the next one where they touch.
use Rattle.sets25.proofs.Lemmas.{arith, drop_all, drop_more, get_or_default, nat_tests, put_touching, set_split}
use Rattle.sets25.proofs.spans.put_joined.Goals as goal
use Rattle.sets25.proofs.spans.put_joined.Goals.{else-index-len-via-else-index-len, else-index-len-via-then-index-len+else-index-span}

pub returns-then-index-span : goal.returns-then-index-span
returns-then-index-span c = grind (arith, get_or_default, put_touching)

pub returns-else-index-len : goal.returns-else-index-len
returns-else-index-len c = grind (arith, nat_tests, get_or_default, set_split, drop_more, drop_all)
