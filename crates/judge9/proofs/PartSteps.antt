-- What is passed over after a break, where the next part begins, and what a judging of all parts comes to.
use Rattle.judge9.proofs.Words.{[], append-nil, append_assoc, AreRead, arith, Beginning, Bool, false, from_command, GivesAll, GivesRecord, inl, inr, judged_from, last_of, length, LineByte, List}
use Rattle.judge9.proofs.Words.{may_begin, None, NoneBegins, Option, Progress, Reason, refl, Rest, rest_after, Rows, Some, subst, true, ℕ, if◌then◌else◌, ◌++◌, ◌+◌, ◌∷◌, ◌≡◌, ◌≤◌, ◌⊎◌}
use Rattle.judge9.proofs.ReadSteps.{read_next}

-- ---- records that were given one after another

-- one more
pub gives-more : {R : Type 0} (old mid new : Progress R) {r : LineByte} (records : List LineByte) → GivesAll old records mid → GivesRecord mid r new
    → GivesAll old (records ++ r ∷ []) new
gives-more old mid new [] all gives = (new, rw all at gives, refl)
gives-more old mid new (x ∷ records) all gives = (all.0, all.1, gives-more all.0 mid new records all.2 gives)

pub read_all : {R : Type 0} {limit : ℕ} (rows : Option Rows) (items : List LineByte) (old new : Progress R) (records : List LineByte) → AreRead limit rows items old
    → GivesAll old records new → AreRead limit rows (items ++ records) new
read_all rows items old new [] h all = rw (all, append-nil) h
read_all {limit = limit} rows items old new (r ∷ records) h all =
    subst (λ l. AreRead limit rows l new) (append_assoc items (r ∷ []) records)
    (read_all rows (items ++ r ∷ []) all.0 new records (read_next rows items old all.0 r h all.1) all.2)

pub none_fewer : {R : Type 0} (old new : Progress R) (records : List LineByte) → GivesAll old records new → old.given ≤ new.given
none_fewer old new [] all = rw all (omega arith)
none_fewer old new (r ∷ records) all = omega (arith, all.1.given, none_fewer all.0 new records all.2)

-- ---- records that may not begin a command

-- one more
pub none-more : (last : Option LineByte) (records : List LineByte) (r : LineByte) → NoneBegins last records → may_begin (last_of last records) r ≡ false
    → NoneBegins last (records ++ r ∷ [])
none-more last [] r none one = (one, tt)
none-more last (x ∷ records) r none one = (none.0, none-more (Some x) records r none.1 one)

pub last-more : (last : Option LineByte) (records : List LineByte) (r : LineByte) → last_of last (records ++ r ∷ []) ≡ Some r
last-more last [] r = refl
last-more last (x ∷ records) r = last-more (Some x) records r

-- the next part begins after them, with the first that may
pub passed_to : (n : ℕ) (last : Option LineByte) (records : List LineByte) (first : LineByte) (more : List LineByte) → NoneBegins last records
    → may_begin (last_of last records) first ≡ true
    → from_command n last (records ++ first ∷ more) ≡ record { past = n + length records; records = first ∷ more }
passed_to n last [] first more none begins = grind arith
passed_to n last (r ∷ records) first more none begins = let later = passed_to (n + 1) (Some r) records first more none.1 begins in grind arith

-- or nowhere
pub passed_all : (n : ℕ) (last : Option LineByte) (records : List LineByte) → NoneBegins last records
    → from_command n last records ≡ record { past = n + length records; records = [] }
passed_all n last [] none = grind arith
passed_all n last (r ∷ records) none = let later = passed_all (n + 1) (Some r) records none.1 in grind arith

-- what holds either way
pub either : {A : Type 0} (P : A → Type 0) (b : Bool) (x y : A) → P x → P y → P (if b then x else y)
either P true x y here later = here
either P false x y here later = later

pub both : {A B : Type 0} (P : A → B → Type 0) (b : Bool) (x y : A) (u v : B) → P x u → P y v → P (if b then x else y) (if b then u else v)
both P true x y u v here later = here
both P false x y u v here later = later

-- it never begins earlier
pub from_command_low : (past : ℕ) (last : Option LineByte) (records : List LineByte) → past ≤ (from_command past last records).past
from_command_low past last [] = omega arith
from_command_low past last (r ∷ records) = let later = from_command_low (past + 1) (Some r) records in grind arith

pub rest_after_low : (n : ℕ) (reason : Reason) (breaking : LineByte) (after : List LineByte) → n ≤ (rest_after n reason breaking after).past
rest_after_low n reason breaking after = let later = from_command_low (n + 1) (Some breaking) after in grind arith

-- ---- where a judging begins

-- those that are judged of a capture with these records are the ones behind `past`
pub record IsFrom (beginning : Beginning) (past items : List LineByte) : Type 0 where
  pub same : judged_from beginning (past ++ items) ≡ record { past = length past; records = items }

pub from_none : (beginning : Beginning) → IsFrom beginning [] []
from_none Beginning.FirstRecord = record { same = refl }
from_none Beginning.FirstCommand = record { same = refl }

-- records that are passed over, and then the first that may begin, or none
pub judged_with : (passed : List LineByte) (first : LineByte) → NoneBegins None passed → may_begin (last_of None passed) first ≡ true → (more : List LineByte)
    → IsFrom Beginning.FirstCommand passed (first ∷ more)
judged_with passed first none may more =
    let zero : 0 + length passed ≡ length passed = omega arith in record { same = rw zero at (passed_to 0 None passed first more none may) }

pub none_judged : (passed : List LineByte) → NoneBegins None passed → IsFrom Beginning.FirstCommand passed []
none_judged passed none =
    let zero : 0 + length passed ≡ length passed = omega arith in record { same = rw append-nil (rw zero at (passed_all 0 None passed none)) }

-- with more records: none of these is judged, or the same are judged with those
abbrev pub GoesOn : (List LineByte → Rest) → List LineByte → List LineByte → Type 0
GoesOn left items more = ((left items).records ≡ []) ⊎ (left (items ++ more) ≡ record { past = (left items).past; records = (left items).records ++ more })

command_more : (n : ℕ) (last : Option LineByte) (items more : List LineByte) → GoesOn (from_command n last) items more
command_more n last [] more = inl refl
command_more n last (x ∷ items) more =
    both (λ (rest all : Rest). (rest.records ≡ []) ⊎ (all ≡ record { past = rest.past; records = rest.records ++ more })) (may_begin last x) _ _ _ _ (inr refl)
    (command_more (n + 1) (Some x) items more)

pub judged_more : (beginning : Beginning) (items more : List LineByte) → GoesOn (judged_from beginning) items more
judged_more Beginning.FirstRecord items more = inr refl
judged_more Beginning.FirstCommand items more = command_more 0 None items more

-- those that are judged, and those that are passed over before them
pub from_size : (n : ℕ) (last : Option LineByte) (items : List LineByte) → (from_command n last items).past + length (from_command n last items).records ≡ n + length items
from_size n last [] = refl
from_size n last (x ∷ items) = let later = from_size (n + 1) (Some x) items in grind arith

pub judged_size : (beginning : Beginning) (items : List LineByte) → (judged_from beginning items).past + length (judged_from beginning items).records ≡ length items
judged_size Beginning.FirstRecord items = omega arith
judged_size Beginning.FirstCommand items = omega (arith, from_size 0 None items)
