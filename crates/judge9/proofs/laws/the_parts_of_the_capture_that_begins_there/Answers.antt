use Rattle.judge9.proofs.Words.{arith, judged_from, length, ◌+◌, ◌≡◌}
use Rattle.judge9.proofs.PartSteps.{judged_size}
use Rattle.judge9.proofs.Numbering.{part_renumbered, parts_renumbered, totals_renumbered}
use Rattle.judge9.proofs.laws.the_parts_of_the_capture_that_begins_there.Goals as goal

pub returns : goal.returns
returns c = λ beginning profile items broken left last totals parts part are.
    let rest = judged_from beginning items in
    let none : rest.past + 0 ≡ rest.past = omega arith in (
      rw none at (parts_renumbered rest.past profile _ left broken parts),
      part_renumbered rest.past profile last part,
      rw (judged_size beginning items) at (totals_renumbered rest.past (length rest.records) broken last totals are),
    )
