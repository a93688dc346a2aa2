use Rattle.judge9.proofs.Words.{refl, ◌∙◌}
use Rattle.judge9.proofs.why.why_broken.Goals as goal

pub returns : goal.returns
returns g c =
    let items = c.in_ok-tail.ensures ∙ c.tail.ensures in
    let ended = rw (c.as_slice.ensures.value, items) at c.ended_before-before.ensures in
    (c.at.ensures, refl, refl, items, c.open.ensures, ended, c.requires)
