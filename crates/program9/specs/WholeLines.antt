-- What a line-buffered writer holds back: never a whole line.
use Rattle.std.specs.Prelude.{◌≡◌, ◌≢◌, ◌<◌, ℕ, Bool, true, List, length, slice_index, Option, None}
use Rattle.std.specs.declared.io.ErrorKind.{ErrorKind}

-- no line ends in these bytes
abbrev pub HasNoLine : List ℕ → Type 0
HasNoLine bytes = (k : ℕ) → k < length bytes → slice_index bytes k ≢ 0x0A

-- the first line of these bytes ends here
pub record IsLineEnd (bytes : List ℕ) (at : ℕ) : Type 0 where
  pub within : at < length bytes
  pub is_end : slice_index bytes at ≡ 0x0A
  pub first : (k : ℕ) → k < at → slice_index bytes k ≢ 0x0A

-- these bytes are held back: in a line-buffered writer no line ends in them
abbrev pub HoldsBack : Bool → List ℕ → Type 0
HoldsBack line_buffered bytes = line_buffered ≡ true → HasNoLine bytes

-- a line-buffered writer holds no whole line, unless a write failed
abbrev pub HoldsNoLine : Bool → Option ErrorKind → List ℕ → Type 0
HoldsNoLine line_buffered failed held = line_buffered ≡ true → failed ≡ None → HasNoLine held
