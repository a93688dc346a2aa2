use Rattle.judge9.proofs.PartLaws.{one_list}
use Rattle.judge9.proofs.Words.{arith}
use Rattle.judge9.proofs.laws.one_list_of_parts.Goals as goal

pub returns : goal.returns
returns c = record {
  parts = λ profile rest left remaining broken others last other p is past all q also past_other all_other.
      one_list profile rest left remaining broken others last other p (record { is_part = is; past = past; has_all = all }) q
      (record { is_part = also; past = past_other; has_all = all_other });
  totals = λ records broken last totals others a b. grind (arith, a, b);
}
