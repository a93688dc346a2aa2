use Rattle.judge9.proofs.Words.{ap, refl, take, ◌∙◌}
use Rattle.judge9.proofs.WhySteps.{late_said}
use Rattle.judge9.proofs.why.why_late.Goals as goal

pub returns : goal.returns
returns g c = λ asked late at.
    let paired = c.args.judging.now.feed.follower.pairer in
    let items = c.in_ok-tail.ensures ∙ ap (take c.open-open.result.asked) c.tail.ensures in
    let said = late_said paired.rules paired.tail asked c.in_ok-tail.tail.items c.args.first c.open-open.result c.open-open.ensures items late at in
    (c.at.ensures, refl, said.0, said.1, refl, refl)
