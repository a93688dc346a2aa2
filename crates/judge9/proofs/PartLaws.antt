-- What the parts of a capture are to the capture that begins with each.
use Rattle.judge9.proofs.Words.{[], All, All-cons, All-nil, ap, AreCounts, AreParts, AreTotals, arith, begins_next_part, Breaks, BrokenPart, counting, cut_once, drop}
use Rattle.judge9.proofs.Words.{from_command, in_parts, IsFirstBreak, IsOk, IsPart, late_replies, length, line_rules, LineByte, List, may_begin, number_of, Option}
use Rattle.judge9.proofs.Words.{Part, Profile, Reason, refl, Rest, rest_after, same_parts, Some, sym, Terms, Totals, ℕ, ◌++◌, ◌+◌, ◌∙◌, ◌∷◌, ◌≡◌}
use Rattle.std.proofs.lemmas.List.{drop-drop}
use Rattle.std.proofs.Math.Seq.{drop-append_seam}
use Rattle.judge9.proofs.FirstBreak.{breaks_in_time, part_counts, reason_told}
use Rattle.judge9.proofs.LawLemmas.{break_once, no_break, part_ok}
use Rattle.judge9.proofs.LineSteps.{cut_len}
use Rattle.judge9.proofs.PartSteps.{either}
use Rattle.judge9.proofs.Told.{all_told_once, told_once}

-- the rest is what is left of the capture behind the records before it
abbrev pub IsRestOf : List LineByte → Rest → Type 0
IsRestOf items rest = rest.records ≡ drop rest.past items

from_command_rest : (items : List LineByte) (n : ℕ) (last : Option LineByte) (records : List LineByte) → records ≡ drop n items
    → IsRestOf items (from_command n last records)
from_command_rest items n last [] is = is
from_command_rest items n last (r ∷ records) is =
    either (IsRestOf items) (may_begin last r) _ _ is (from_command_rest items (n + 1) (Some r) records (ap (drop 1) is ∙ drop-drop 1 n items))

-- so is what comes after records and the one that breaks a rule
pub rest_after_rest : (items : List LineByte) (n : ℕ) (records : List LineByte) (r : LineByte) (reason : Reason) (after : List LineByte) → records ++ r ∷ after ≡ drop n items
    → IsRestOf items (rest_after (n + length records) reason r after)
rest_after_rest items n records r reason after is =
    let here : r ∷ after ≡ drop (n + length records) items =
    sym (drop-append_seam records (r ∷ after)) ∙ ap (drop (length records)) is ∙ drop-drop (length records) n items in
    either (IsRestOf items) (begins_next_part reason r) _ _ here
    (from_command_rest items (n + length records + 1) (Some r) after (ap (drop 1) here ∙ drop-drop 1 (n + length records) items))

-- a part that breaks, as the no of all that is left where it begins
module _ {terms : Terms} {rest : Rest} (left : Rest) (b : BrokenPart) (broken : List BrokenPart) (parts : AreParts terms rest (b ∷ broken) left) where
  abbrev pub no_by : {others : Terms} {reason : Reason} → Breaks others b.part.records b.breaking reason → IsFirstBreak others rest.past rest.records (number_of b) reason
  no_by breaks = record {
    before = b.part.records;
    next = b.breaking;
    after = parts.0;
    split = ap (λ (x : Rest). x.records) parts.1;
    number = omega (arith, ap (λ (x : Rest). x.past) parts.1);
    breaks = breaks;
  }

  abbrev pub first_no : IsFirstBreak terms rest.past rest.records (number_of b) b.reason
  first_no = no_by parts.3

  pub none_breaks : IsOk terms rest.records → ⊥
  none_breaks ok = no_break terms rest.past rest.records (number_of b) b.reason ok first_no

-- where no reply of it is late, also as the reply limit counts
pub first_in_time : {profile : Profile} {rest : Rest} (left : Rest) (b : BrokenPart) (broken : List BrokenPart) → AreParts (in_parts profile) rest (b ∷ broken) left
    → late_replies b.part.events ≡ 0 → IsFirstBreak (counting profile) rest.past rest.records (number_of b) (reason_told profile b)
first_in_time {profile = profile} left b broken parts none = no_by left b broken parts (breaks_in_time profile b parts.2 parts.3 parts.4 none)

-- what holds of each part, of the capture that begins with it
module _ {terms : Terms} (items : List LineByte) (P : BrokenPart → Type 0)
    (holds : (rest left : Rest) (b : BrokenPart) (broken : List BrokenPart) → IsRestOf items rest → AreParts terms rest (b ∷ broken) left → P b) where
  pub each_of : (rest : Rest) (broken : List BrokenPart) (left : Rest) → IsRestOf items rest → AreParts terms rest broken left → All P broken
  each_of rest [] left is parts = All-nil P
  each_of rest (b ∷ broken) left is parts =
      let on = rest_after_rest items b.part.past b.part.records b.breaking b.reason parts.0 (rw parts.1 at is) in
      All-cons P b broken (holds rest left b broken is parts) (each_of (rest_after (b.part.past + length b.part.records) b.reason b.breaking parts.0) broken left on parts.5)

pub counts_of_a_yes : (profile : Profile) (items : List LineByte) (left : Rest) (last : Part) (totals : Totals)
    → AreParts (in_parts profile) (record { past = 0; records = items }) [] left → IsPart (in_parts profile) last → last.records ≡ left.records → AreTotals (length items) [] last totals
    → totals.breaks ≡ 0 → AreCounts (counting profile) items totals.records totals.exchanges totals.tail × (totals.passed_over ≡ 0)
counts_of_a_yes profile items left last totals parts part all are none =
    let same : last.records ≡ items = all ∙ ap (λ (x : Rest). x.records) parts in
    let size = cut_len (line_rules (in_parts profile)) last.records last.exchanges last.tail part.cut in
    let in_time : late_replies last.events ≡ 0 = omega (arith, are.breaks, none) in (
      search (rw same at (part_counts profile last part in_time), part.run, are.all_records, are.exchanges, are.tail),
      omega (arith, are.passed_over, are.tail, size, ap length same),
    )

-- ---- one list of parts

-- the last part keeps the rules, and has all that is left
pub record IsLast (profile : Profile) (left : Rest) (last : Part) : Type 0 where
  pub is_part : IsPart (in_parts profile) last
  pub past : last.past ≡ left.past
  pub has_all : last.records ≡ left.records

pub same_part : (terms : Terms) (some other : Part) → IsPart terms some → IsPart terms other → some.past ≡ other.past → some.records ≡ other.records → some ≡ other
same_part terms some other is also past records =
    let cut = cut_once (line_rules terms) other.records some.exchanges other.exchanges some.tail other.tail (rw records at is.cut) also.cut in
    let events = told_once also some.events (rw (past, records) at is.are_events) in
    grind (arith, past, records, cut, events)

-- one part breaks first, and the same records come after it
pub one_first : {terms : Terms} {rest : Rest} (left remaining : Rest) (b c : BrokenPart) (broken others : List BrokenPart)
    (p : AreParts terms rest (b ∷ broken) left) (q : AreParts terms rest (c ∷ others) remaining) → (b ≡ c) × (p.0 ≡ q.0)
one_first {terms = terms} {rest = rest} left remaining b c broken others p q =
    let once = break_once terms rest.past rest.records (number_of b) (number_of c) b.reason c.reason (first_no left b broken p) (first_no remaining c others q) in
    let past = sym (ap (λ (x : Rest). x.past) p.1) ∙ ap (λ (x : Rest). x.past) q.1 in
    let records = sym (ap (λ (x : Rest). x.records) p.1) ∙ ap (λ (x : Rest). x.records) q.1 in
    let split = same_parts b.part.records c.part.records (b.breaking ∷ p.0) (c.breaking ∷ q.0) (omega (arith, past, once.0)) records in
    let breaking : b.breaking ≡ c.breaking = let e = split.1 in cc in
    let behind : p.0 ≡ q.0 = let e = split.1 in cc in
    let equal = same_part terms b.part c.part p.2 q.2 past split.0 in
    let events = all_told_once c.part c.breaking q.2 q.3.not_ok b.events c.events (rw (equal, breaking) at p.4) q.4 in
    (grind (arith, equal, breaking, once, events), behind)

pub one_list : (profile : Profile) (rest left remaining : Rest) (broken others : List BrokenPart) (last other : Part) → AreParts (in_parts profile) rest broken left
    → IsLast profile left last → AreParts (in_parts profile) rest others remaining → IsLast profile remaining other → (broken ≡ others) × (last ≡ other)
one_list profile rest left remaining [] [] last other p is q also = (
  refl,
  same_part (in_parts profile) last other is.is_part also.is_part (cc (is.past, p, q, also.past)) (cc (is.has_all, p, q, also.has_all)),
)
one_list profile rest left remaining [] (c ∷ others) last other p is q also = absurd (none_breaks remaining c others q (rw (is.has_all, p) at (part_ok is.is_part)))
one_list profile rest left remaining (b ∷ broken) [] last other p is q also = absurd (none_breaks left b broken p (rw (also.has_all, q) at (part_ok also.is_part)))
one_list profile rest left remaining (b ∷ broken) (c ∷ others) last other p is q also =
    let (first, behind) = one_first left remaining b c broken others p q in
    let parts = one_list profile (rest_after (c.part.past + length c.part.records) c.reason c.breaking q.0) left remaining broken others last other (rw (first, behind) at p.5) is q.5 also in
    (cc (first, parts.0), parts.1)
