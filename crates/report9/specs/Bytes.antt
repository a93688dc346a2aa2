-- The bytes of blocks, in hexadecimal digits.
use Rattle.std.specs.Prelude.{ℕ, ◌/◌, ◌%◌, List, [], ◌∷◌, ◌++◌, slice_index, codes}
use Rattle.block9.specs.declared.block.Block.{Block}
use Rattle.block9.specs.Block.{spelling}

-- a hexadecimal digit, in upper case
abbrev pub hex_digit : ℕ → ℕ
hex_digit n = slice_index (codes "0123456789ABCDEF") n

-- a byte as two hexadecimal digits
abbrev pub hex_byte : ℕ → List ℕ
hex_byte n = hex_digit (n / 16 % 16) ∷ hex_digit (n % 16) ∷ []

-- bytes with a space between two, and this before the first, as in 61 20 01 82
abbrev pub hex_bytes : List ℕ → List ℕ → List ℕ
hex_bytes before [] = []
hex_bytes before (byte ∷ bytes) = before ++ hex_byte byte ++ hex_bytes (codes " ") bytes

-- the first two bytes of a block, given as one number, as in 51 20
unfoldable pub text_of_head : ℕ → List ℕ
text_of_head head = hex_byte (head / 256) ++ codes " " ++ hex_byte (head % 256)

-- a block's bytes as they were captured
unfoldable pub text_of_block : Block → List ℕ
text_of_block b = hex_bytes [] (spelling b)
