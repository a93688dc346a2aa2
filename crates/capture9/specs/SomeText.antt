-- Which rows are those of some text that may have at most `limit` of them.
use Rattle.std.specs.Prelude.{◌≡◌, ℕ, ◌+◌, ◌^◌, ◌<◌, ◌≤◌, List, [], length, All, IfSome}
use Rattle.std.specs.List.Sorted.{IsNonDecreasingBy}
use Rattle.capture9.specs.declared.error.CaptureKind.{CaptureKind}
use Rattle.capture9.specs.declared.error.CaptureKind.TheVariants as kind
use Rattle.capture9.specs.declared.line_byte.LineByte.{LineByte}
use Rattle.capture9.specs.Error.{CanShow}
use Rattle.capture9.specs.RowRules.{last_time}
use Rattle.capture9.specs.Rows.{Rows, rows_within}

-- the row after these records, which is not yet one too many
abbrev pub IsNextRow : ℕ → List LineByte → ℕ → Type 0
IsNextRow limit items row = (row ≡ length items + 1) × (row ≤ limit)

-- a fault of this kind at this row can end a text that holds these records
abbrev pub CanFollow : ℕ → CaptureKind → List LineByte → ℕ → Type 0
CanFollow limit kind.Header items row = (items ≡ []) × (row ≡ 0)
CanFollow limit kind.Fields items row = IsNextRow limit items row
CanFollow limit kind.Time items row = IsNextRow limit items row
CanFollow limit kind.Wire items row = IsNextRow limit items row
CanFollow limit kind.Byte items row = IsNextRow limit items row
CanFollow limit kind.Backwards items row = IsNextRow limit items row
CanFollow limit kind.TooMany items row = (length items ≡ limit) × (row ≡ limit + 1)
CanFollow limit kind.Read items row = ⊥
CanFollow limit kind.OutOfMemory items row = ⊥

-- rows that some text can hold: few enough records, in order and in range, and a fault that can follow them
pub record CanBeRows (limit : ℕ) (rows : Rows) : Type 0 where
  pub within : length rows.records ≤ limit
  pub in_order : IsNonDecreasingBy (λ r. r.time_us) rows.records
  pub in_range : All (λ r. r.time_us < 10 ^ 15) rows.records
  pub bytes : All (λ r. r.byte < 256) rows.records
  pub fault : IfSome rows.fault (λ e. CanFollow limit e.kind rows.records e.row)
  pub shown : IfSome rows.fault (λ e. CanShow (last_time 0 rows.records) e.kind e.field)

-- some text holds exactly these rows
abbrev pub IsOfSomeText : ℕ → Rows → Type 0
IsOfSomeText limit rows = (text : List ℕ) × (rows_within limit text ≡ rows)
