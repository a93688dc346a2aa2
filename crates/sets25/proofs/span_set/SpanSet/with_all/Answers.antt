-- The list with the other's frames is the set with the other's members, and each is one of the day.
use Rattle.sets25.proofs.Lemmas.{arith, covered_in_day, of_day-from_covered, spans_held, times_where-union}
use Rattle.sets25.proofs.span_set.SpanSet.with_all.Goals as goal

pub invariant_of-result : goal.invariant_of-result
invariant_of-result c = record {
  canonical = c.in_ok-add_all.ensures.canonical;
  of_day = of_day-from_covered c.args.self.rate 0 _ c.in_ok-add_all.ensures.canonical (λ f there.
      let told = c.in_ok-add_all.ensures.ok f in
      let own = covered_in_day c.args.self.rate (spans_held c.args.self.spans) c.args.self.of_day f in
      let others = covered_in_day c.args.self.rate (spans_held c.args.other.now.spans) (rw c.requires at c.args.other.now.of_day) f in
      grind arith);
}

pub returns-clause-members : goal.returns-clause-members
returns-clause-members c = rw c.requires (times_where-union c.args.self.rate _ _ _ (λ f h. c.in_ok-add_all.ensures.ok f))
