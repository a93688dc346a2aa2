use Rattle.program9.proofs.judging.judge_and_flush.Goals as goal

pub returns-in-Parts : goal.returns-in-Parts
returns-in-Parts g c =
    let judged = c.judge_parts_for-judged.ensures in
    let same = c.reading-reader-in-Parts.ensures in
    rw c.in-Parts.is (
      c.outcome_in_parts-end.result,
      record {
        judged = c.judge_parts_for-judged.result;
        all = _;
        is_judged = record { told = rw same at judged.told; kind = judged.kind; header = rw same at judged.header };
        result = c.ended-in-Parts.result;
        hands_on = c.ended-in-Parts.ensures.handed_on;
        is_end = c.outcome_in_parts-end.ensures;
      },
      c.hinted-in-Parts.ensures,
    )
