-- What is still to come of the rows ends as all of them do.
use Rattle.std.specs.Prelude.{◌-◌, ◌≡◌, ◌≤◌, Option, None, Some, ⊤}
use Rattle.capture9.specs.Fields.{greatest_limit}
use Rattle.capture9.specs.Rows.{Rows}
use Rattle.capture9.specs.declared.records.Standing.{Standing}
use Rattle.info9.proofs.info.take_all.Given as goal

-- rows that end as these do
abbrev pub EndsAlike : Option Rows → Option Rows → Type 0
EndsAlike None now = ⊤
EndsAlike (Some all) now = (rest : Rows) × (now ≡ Some rest) × (all.fault ≡ rest.fault)

abbrev pub invariant-loop-record : goal.invariant-loop-record
invariant-loop-record g l = record {
  reading : l.records.standing ≡ Standing.Reading;
  limit : l.records.most_rows ≡ greatest_limit;
  within : l.records.given ≤ greatest_limit;
  rows : EndsAlike l.fn.records.rows l.records.rows;
}

abbrev pub decreases-loop-record : goal.decreases-loop-record
decreases-loop-record g l = greatest_limit - l.records.given
