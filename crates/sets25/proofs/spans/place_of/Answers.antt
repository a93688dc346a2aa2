-- A binary search finds the first span that does not end before the frame.
use Rattle.sets25.proofs.Lemmas.{arith, get_or-drop, get_or-take, IsPartitionedBy-ltb, IsPartitionPoint-from_clause, lasts_rise, length-drop, length-take, ltb, nat_tests, rules}
use Rattle.sets25.proofs.Lemmas.{Span}
use Rattle.sets25.proofs.spans.place_of.Goals as goal

pub returns : goal.returns
returns c =
    let xs = c.args.spans.now in
    let i = c.partition_point.result in
    let point = IsPartitionPoint-from_clause (λ (s : Span). ltb s.last c.args.frame) xs i c.partition_point.ensures.partitioned
    (IsPartitionedBy-ltb (λ (s : Span). s.last) xs c.args.frame (lasts_rise 0 xs c.requires)) (λ a r q k. search rules) in
    record {
      fits = c.partition_point.ensures.bound;
      below = λ k d h. grind (arith, nat_tests, length-take i xs, get_or-take i xs k d, point.0 k d);
      above = λ d h. grind (arith, nat_tests, length-drop i xs, get_or-drop i xs 0 d, point.1 i d);
    }
