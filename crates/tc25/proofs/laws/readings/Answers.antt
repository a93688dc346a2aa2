-- What is given is what is read, by the lemmas on one list of bytes.
use Rattle.std.proofs.Common.{ap, arith, is_some, Some, unwrap_or, ℕ, ◌≡◌}
use Rattle.tc25.proofs.DayLemmas.{given_reads, none_reads, read_given}
use Rattle.tc25.specs.Day.{time_of}
use Rattle.tc25.proofs.laws.readings.Goals as goal

pub returns-clause-given : goal.returns-clause-given
returns-clause-given c = λ rate bytes t. (given_reads rate bytes t, read_given rate bytes t)

pub returns-clause-valid : goal.returns-clause-valid
returns-clause-valid c = λ rate bytes. (
  λ valid. (unwrap_or (time_of rate bytes) 0, given_reads rate bytes _ (grind arith)),
  λ read. ap is_some
      (read_given rate bytes read.0 read.1),
)

pub returns-clause-absent : goal.returns-clause-absent
returns-clause-absent c = λ rate bytes. (
  none_reads rate bytes,
  λ none.
      let never = λ (t : ℕ) (e : time_of rate bytes ≡ Some t). none t (given_reads rate bytes t e) in grind arith,
)
