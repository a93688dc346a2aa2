-- A binary search finds the first list that begins above the frame; the one before it is the frame's.
use Rattle.sets25.proofs.Lemmas.{arith, begin_of, begins_rise, canonical_parts, Global, IsNonDecreasingBy-from_default, IsPartitionedBy-leb, IsPartitionPoint-from_clause, leb}
use Rattle.sets25.proofs.Lemmas.{lists_in, lists_in-get, lists_in-length, nat_tests, place_is, rules, Span, Vec}
use Rattle.sets25.proofs.span_list.SpanList.place_of.Goals as goal

pub returns : goal.returns
returns c =
    let l = c.args.self.now in
    let f = c.args.frame in
    let vs = l.rest.items in
    let n = c.partition_point.result in
    let rise = begins_rise 0 (lists_in vs) l.filled (canonical_parts 0 l.first.items _ c.requires).1 in
    let begin = λ (v : Vec Span Global). begin_of v.items in
    let parted = IsPartitionedBy-leb begin vs f (IsNonDecreasingBy-from_default begin vs l.first (λ i j le h.
    grind (arith, lists_in-get vs i l.first, lists_in-get vs j l.first, lists_in-length vs, rise i j))) in
    let partitioned = rw c.deref.ensures.value at c.partition_point.ensures.partitioned in
    let point = IsPartitionPoint-from_clause (λ (v : Vec Span Global). leb (begin_of v.items) f) vs n partitioned parted (λ a r q k. search rules) in
    place_is f l.first.items (lists_in vs) n l.filled c.requires (omega (arith, lists_in-length vs))
    (λ k h. grind (arith, nat_tests, lists_in-get vs k l.first, point.0 k l.first))
    (λ h. grind (arith, nat_tests, lists_in-length vs, lists_in-get vs n l.first, point.1 n l.first))
