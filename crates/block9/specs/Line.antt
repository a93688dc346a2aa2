-- Blocks on a wire: lists of captured records.
use Rattle.std.specs.Prelude.{ℕ, ◌+◌, ◌/◌, ◌%◌, ◌<◌, ◌≤◌, ◌≡◌, ◌&&◌, ◌==◌, nat_lt, not, Bool, true, false, List, [], ◌∷◌, map, length}
use Rattle.capture9.specs.declared.line_byte.LineByte.{LineByte}
use Rattle.capture9.specs.declared.line_byte.Wire.{Wire}
use Rattle.capture9.specs.declared.line_byte.Wire.TheVariants.{Controller, Deck}
use Rattle.block9.specs.declared.block.Block.{Block}
use Rattle.block9.specs.Block.{Spells}

-- the time that a byte takes on the line, in microseconds: eleven bits at 38,400 a second, rounded up
abbrev pub byte_time : ℕ
byte_time = 287

-- the longest time between neighbouring records of one block, in microseconds: 10 ms, and the time of a byte
abbrev pub byte_gap : ℕ
byte_gap = 10000 + byte_time

-- the longest time from a command's last record to its reply's first, in microseconds: 9 ms, and the time of a byte
abbrev pub reply_limit : ℕ
reply_limit = 9000 + byte_time

-- the bytes of the records
abbrev pub bytes_of : List LineByte → List ℕ
bytes_of records = map (λ (r : LineByte). r.byte) records

-- the time of the first record, and of the last one
abbrev pub first_time : List LineByte → ℕ
first_time [] = 0
first_time (r ∷ records) = r.time_us

abbrev pub last_time : List LineByte → ℕ
last_time [] = 0
last_time (r ∷ []) = r.time_us
last_time (r ∷ s ∷ records) = last_time (s ∷ records)

-- a command comes on the controller's wire
abbrev pub is_commands_wire : Wire → Bool
is_commands_wire Controller = true
is_commands_wire Deck = false

-- the groups that may begin a block on a wire
abbrev pub allows : Wire → ℕ → Bool
allows Controller group = nat_lt group 16 && not (group == 1) && not (group == 7)
allows Deck group = nat_lt group 16 && not (group == 0) && not (group == 2) && not (group == 4) && not (group == 6)

-- the first byte of a block has its group above and the number of its data bytes below
abbrev pub group_in : ℕ → ℕ
group_in byte = byte / 16

-- the byte of the first record
abbrev pub first_byte : List LineByte → ℕ
first_byte [] = 0
first_byte (first ∷ records) = first.byte

-- how many records the block has that begins with these: the first byte, the code, the data and the sum
abbrev pub block_len : List LineByte → ℕ
block_len [] = 0
block_len (first ∷ records) = first.byte % 16 + 3

-- all on one wire, with no time falling and no gap that is too long
abbrev pub IsLinked : Wire → List LineByte → Type 0
IsLinked wire [] = Unit {0}
IsLinked wire (r ∷ []) = r.wire ≡ wire
IsLinked wire (r ∷ s ∷ records) = (r.wire ≡ wire) × (r.time_us ≤ s.time_us) × (s.time_us ≤ r.time_us + byte_gap) × IsLinked wire (s ∷ records)

-- a block on a wire
pub record IsWhole (wire : Wire) (records : List LineByte) (b : Block) : Type 0 where
  pub linked : IsLinked wire records
  pub spelled : Spells (bytes_of records) b
  pub allowed : allows wire b.group ≡ true

-- the first records of a block, not all of it
pub record IsBegun (wire : Wire) (records : List LineByte) : Type 0 where
  pub linked : IsLinked wire records
  pub begun : 0 < length records
  pub short : length records < block_len records
  pub allowed : allows wire (group_in (first_byte records)) ≡ true
