-- The list has the records given so far, and the rest of the text's rows is still to come.
use Rattle.capture9.proofs.Words.{[], false, length, most_rows, Standing, ◌-◌, ◌≡◌, ◌≤◌}
use Rattle.capture9.proofs.CaptureLemmas.{IsReadUpTo}
use Rattle.capture9.proofs.capture.read_into.Given as goal

abbrev pub invariant-loop-record : goal.invariant-loop-record
invariant-loop-record g l = record {
  reading : l.records.standing ≡ Standing.Reading;
  given : l.records.given ≡ length l.rows.items;
  limit : l.records.most_rows ≡ most_rows;
  within : l.records.given ≤ most_rows;
  headed : l.records.is_headed ≡ false → l.rows.items ≡ [];
  rows : IsReadUpTo l.fn.records.rows l.rows.items l.records.rows;
}

abbrev pub decreases-loop-record : goal.decreases-loop-record
decreases-loop-record g l = most_rows - l.records.given
