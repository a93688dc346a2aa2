-- What reading all rows of a capture comes to.
use Rattle.std.specs.Prelude.{◌≡◌, ⊤, ℕ, IsTrue, List, Option, None, Some, Result, Ok, Err, IfSome}
use Rattle.capture9.specs.Error.{is_of_text}
use Rattle.capture9.specs.Fields.{greatest_limit}
use Rattle.capture9.specs.Rows.{Rows, rows_within}
use Rattle.report9.specs.declared.error.JudgeError.{JudgeError}
use Rattle.report9.specs.declared.error.JudgeError.TheVariants as error

-- none of these rows is bad, or the first bad one is refused; where the reader or the memory fails, nothing is said here
abbrev pub ReadsAllOf : Rows → Result Unit JudgeError → Type 0
ReadsAllOf rows (Ok done) = rows.fault ≡ None
ReadsAllOf rows (Err (error.Capture e)) = IsTrue (is_of_text e.kind) → rows.fault ≡ Some e
ReadsAllOf rows (Err error.Write) = rows.fault ≡ None
ReadsAllOf rows (Err error.OutOfMemory) = ⊤

-- the same of the rows of a capture whose text is this, where it is known
abbrev pub ReadsAll : Option (List ℕ) → Result Unit JudgeError → Type 0
ReadsAll capture told = IfSome capture (λ text. ReadsAllOf (rows_within greatest_limit text) told)
