-- A time of the day is a span by itself.
use Rattle.sets25.proofs.Lemmas.{arith, nat_tests, ◌∙◌}
use Rattle.sets25.proofs.TimesLemmas.{times_where-just}
use Rattle.sets25.proofs.Words.{just, ◌≡◌}
use Rattle.sets25.specs.Times.{just_of}
use Rattle.sets25.proofs.span_set.SpanSetTimeSet.one_at.Goals as goal

pub returns-clause-members : goal.returns-clause-members
returns-clause-members c =
    let is : just c.args.time ≡ just_of c.args.rate c.args.time = grind (arith, nat_tests) in
    times_where-just c.args.rate _ c.args.time (omega arith)
    (λ f h. rw (c.one.ensures, c.of.ensures, c.frames-frame.ensures.value) (grind (arith, nat_tests))) ∙ is
