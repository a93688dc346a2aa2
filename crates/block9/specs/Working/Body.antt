-- The block with a body, as private functions read it.
use Rattle.std.specs.Prelude.{ℕ, ◌+◌, ◌/◌, List, [], ◌∷◌}
use Rattle.block9.specs.declared.block.Block.{Block}
use Rattle.block9.specs.Block.{most_data}

-- the most bytes of a block before its sum: the first one, its code and its data
abbrev pub most_body : ℕ
most_body = most_data + 2

-- the block with this body
abbrev pub block_of : List ℕ → Block
block_of [] = record { group = 0; code = 0; bytes = record { items = [] } }
block_of (first ∷ []) = record { group = first / 16; code = 0; bytes = record { items = [] } }
block_of (first ∷ code ∷ bytes) = record { group = first / 16; code = code; bytes = record { items = bytes } }
