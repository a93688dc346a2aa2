-- A frame is covered where the list at its place covers it.
use Rattle.sets25.proofs.Lemmas.{arith, canonical_list, covered_is, lists_of}
use Rattle.sets25.proofs.span_list.SpanList.contains.Goals as goal

pub contains-requires : goal.contains-requires
contains-requires c = rw c.list.ensures (canonical_list (lists_of c.args.self.now) c.place_of-place.result c.place_of-place.ensures.fits c.requires)

pub returns : goal.returns
returns c = grind (arith, covered_is c.args.frame (lists_of c.args.self.now) c.place_of-place.result c.place_of-place.ensures)
