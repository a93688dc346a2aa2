use Rattle.judge9.proofs.FirstBreak.{reason_told}
use Rattle.judge9.proofs.PartLaws.{each_of, first_in_time, first_no}
use Rattle.judge9.proofs.Words.{ap, counting, drop, in_parts, IsFirstBreak, late_replies, number_of, refl, Rest, ◌≡◌}
use Rattle.judge9.proofs.laws.each_part_is_a_no.Goals as goal

pub returns : goal.returns
returns c = record {
  each = λ profile items broken left parts.
      each_of items (λ b. IsFirstBreak (in_parts profile) b.part.past (drop b.part.past items) (number_of b) b.reason)
      (λ rest left b broken is parts. rw (is, ap (λ (x : Rest). x.past) parts.1) at (first_no left b broken parts)) _ broken left refl parts;
  in_time = λ profile items broken left parts.
      each_of items (λ b. late_replies b.part.events ≡ 0 → IsFirstBreak (counting profile) b.part.past (drop b.part.past items) (number_of b) (reason_told profile b))
      (λ rest left b broken is parts none. rw (is, ap (λ (x : Rest). x.past) parts.1) at (first_in_time {profile = profile} left b broken parts none)) _ broken left refl parts;
  first = λ profile items b broken left parts. first_no left b broken parts;
}
