-- Where the judging of a capture begins, and where it takes up again after a break.
use Rattle.std.specs.Prelude.{ℕ, ◌+◌, if◌then◌else◌, List, [], ◌∷◌, Option, None, Some}
use Rattle.capture9.specs.declared.line_byte.LineByte.{LineByte}
use Rattle.capture9.specs.Rows.{Rows}
use Rattle.block9.specs.declared.reason.Reason.{Reason}
use Rattle.block9.specs.NextPart.{begins_next_part, may_begin}
use Rattle.report9.specs.declared.verdict.Beginning.{Beginning}
use Rattle.report9.specs.declared.verdict.Beginning.TheVariants.{FirstCommand, FirstRecord}

-- records of a capture that are still to be judged, and how many records of it come before them
pub record Rest : Type 0 where
  pub past : ℕ
  pub records : List LineByte

-- what is left of these records from the first one that may begin a command, and nothing where none may; so many records come
-- before them, the last of which is `last`, if there is one
abbrev pub from_command : ℕ → Option LineByte → List LineByte → Rest
from_command past last [] = record { past = past; records = [] }
from_command past last (r ∷ records) =
    if may_begin last r then record { past = past; records = r ∷ records } else from_command (past + 1) (Some r) records

-- ---- where the judging begins

-- the records that are judged of a capture with these, and how many are passed over before them
abbrev pub judged_from : Beginning → List LineByte → Rest
judged_from FirstRecord records = record { past = 0; records = records }
judged_from FirstCommand records = from_command 0 None records

-- the rows that are judged: those from there on
abbrev pub judged_rows : Beginning → Rows → Rows
judged_rows beginning rows = record { records = (judged_from beginning rows.records).records; fault = rows.fault }

-- how many records are passed over before them
abbrev pub passed_before : Beginning → Rows → ℕ
passed_before beginning rows = (judged_from beginning rows.records).past

-- ---- where it takes up again

-- what the next part begins with after a break for this reason: so many records come before the one that breaks, and these after it
abbrev pub rest_after : ℕ → Reason → LineByte → List LineByte → Rest
rest_after past reason breaking after =
    if begins_next_part reason breaking then record { past = past; records = breaking ∷ after } else from_command (past + 1) (Some breaking) after
