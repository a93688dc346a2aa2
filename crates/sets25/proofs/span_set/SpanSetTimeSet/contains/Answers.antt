use Rattle.sets25.proofs.Lemmas.{arith, covered_in_day, nat_tests, spans_held}
use Rattle.sets25.proofs.Words.{contains-times_where}
use Rattle.sets25.proofs.span_set.SpanSetTimeSet.contains.Goals as goal

pub returns : goal.returns
returns c =
    let in_day = covered_in_day c.args.self.now.rate (spans_held c.args.self.now.spans) c.args.self.now.of_day c.args.time in
    grind (arith, nat_tests, contains-times_where)
