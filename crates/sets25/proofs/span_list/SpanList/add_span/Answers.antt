use Rattle.sets25.proofs.Lemmas.{ap, arith, covered_with, is_covered, nat_tests, spans_of, ◌∙◌}
use Rattle.sets25.proofs.span_list.SpanList.add_span.Goals as goal

pub loop-frame-preserved : goal.loop-frame-preserved
loop-frame-preserved c = record {
  canonical = c.in_ok-add.ensures.canonical;
  covers = λ f.
      ap (is_covered f) c.in_ok-add.ensures.ok
      ∙ covered_with f 0 c.loop-frame.frame (spans_of c.loop-frame.self) c.loop-frame.invariant.canonical (omega arith)
      ∙ (grind (arith, nat_tests, c.loop-frame.invariant.covers f));
}
