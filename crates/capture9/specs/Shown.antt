-- What is shown of the field of a bad row.
use Rattle.std.specs.Prelude.{ℕ, Bool, List, ◌++◌, length, min, replicate, take, map, ◌&&◌, nat_le, nat_lt, if◌then◌else◌, codes}
use Rattle.capture9.specs.declared.shown_field.ShownField.{ShownField}

-- what is shown of a field, which is its first 24 bytes, filled up with zeros, how many are its own, and whether it has more
abbrev pub shown_of : List ℕ → ShownField
shown_of field = record { bytes = take 24 (field ++ replicate 24 0); len = min (length field) 24; is_cut = nat_lt 24 (length field) }

-- printable ASCII
abbrev pub is_printable : ℕ → Bool
is_printable byte = nat_le 32 byte && nat_lt byte 127

-- a byte as it is printed: itself where it is printable ASCII, and else a question mark
abbrev pub printed : ℕ → ℕ
printed byte = if is_printable byte then byte else 63

-- bytes as they are printed, in quotes, and three dots after them where they are cut off
abbrev pub in_quotes : List ℕ → Bool → List ℕ
in_quotes bytes is_cut = codes "\"" ++ map printed bytes ++ codes "\"" ++ (if is_cut then codes "..." else codes "")

-- the text of what is shown
abbrev pub shown_text : ShownField → List ℕ
shown_text field = in_quotes (take field.len field.bytes) field.is_cut
