-- A list of records that were read so far, against the text's rows.
use Rattle.capture9.proofs.Words.{LineByte, List, None, Option, Rows, Some, ⊤, ◌++◌, ◌≡◌}

-- these records were read of those rows, and the rest is still to come
pub record IsRest (all : Rows) (items : List LineByte) (rest : Rows) : Type 0 where
  pub records : all.records ≡ items ++ rest.records
  pub fault : all.fault ≡ rest.fault

-- the same where the rows are known
abbrev pub IsReadUpTo : Option Rows → List LineByte → Option Rows → Type 0
IsReadUpTo None items now = ⊤
IsReadUpTo (Some all) items now = (rest : Rows) × (now ≡ Some rest) × IsRest all items rest
