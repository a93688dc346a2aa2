-- What a block is, and how it is spelled on the line.
use Rattle.std.specs.Prelude.{ℕ, ◌+◌, ◌*◌, ◌%◌, ◌<◌, ◌≤◌, ◌≡◌, List, [], ◌∷◌, ◌++◌, length, slice_index}
use Rattle.std.specs.List.{sum}
use Rattle.block9.specs.declared.block.Block.{Block}

-- the most data bytes that a block has
abbrev pub most_data : ℕ
most_data = 15

-- a group is below 16, and there are no more data bytes than that
pub record IsBlock (b : Block) : Type 0 where
  pub group : b.group < 16
  pub data_bytes : length b.bytes.items ≤ most_data

-- the first byte: the group and the number of data bytes
abbrev pub first_byte_of : Block → ℕ
first_byte_of b = 16 * b.group + length b.bytes.items

-- the bytes before the checksum: the first one, the code, the data
abbrev pub body_of : Block → List ℕ
body_of b = first_byte_of b ∷ b.code ∷ b.bytes.items

-- a block as it is sent: its body, and the checksum, which is the sum of the body's bytes modulo 256
abbrev pub spelling : Block → List ℕ
spelling b = body_of b ++ sum (body_of b) % 256 ∷ []

-- these bytes are the spelling of this block
pub record Spells (bytes : List ℕ) (b : Block) : Type 0 where
  pub block : IsBlock b
  pub spelled : bytes ≡ spelling b

-- the first two bytes of a block as one number: 0x2001 for a block that begins with 20 01
abbrev pub head_of : Block → ℕ
head_of b = 256 * first_byte_of b + b.code

-- the first data byte, and 0 where there is none
abbrev pub first_datum : Block → ℕ
first_datum b = slice_index b.bytes.items 0
