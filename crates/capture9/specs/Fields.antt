-- How the fields of a capture's rows are spelled, and how many rows there may be.
use Rattle.std.specs.Prelude.{ℕ, ◌+◌, ◌*◌, ◌^◌, List, [], ◌∷◌, length, Bool, false, ◌&&◌, nat_le, Option, Some, None, codes, if◌then◌else◌}
use Rattle.std.specs.Char.{digit_value, is_digit}
use Rattle.std.specs.Str.{all_ascii_digits, bytes_eq}
use Rattle.capture9.specs.declared.line_byte.Wire.{Wire}
use Rattle.capture9.specs.declared.line_byte.Wire.TheVariants.{Controller, Deck}

-- the most data rows of a capture where no other limit is given
abbrev pub most_rows : ℕ
most_rows = 4000000

-- the greatest limit that can be given: the row after it has the last number of 32 bits
abbrev pub greatest_limit : ℕ
greatest_limit = 4294967294

-- the names of the three columns, as the first record of the text has them
abbrev pub is_header : List (List ℕ) → Bool
is_header (time ∷ wire ∷ byte ∷ []) =
    bytes_eq time (codes "time_us") && bytes_eq wire (codes "wire") && bytes_eq byte (codes "byte")
is_header _ = false

-- the value of decimal digits: each counts ten to the power of the number of digits after it
abbrev pub decimal_value : List ℕ → ℕ
decimal_value [] = 0
decimal_value (digit ∷ rest) = digit_value digit * 10 ^ length rest + decimal_value rest

-- the time that a field tells in microseconds: 1 to 15 decimal digits
abbrev pub time_in : List ℕ → Option ℕ
time_in field =
    if nat_le 1 (length field) && nat_le (length field) 15 && all_ascii_digits field then Some (decimal_value field) else None

-- the wire that a field names: the one letter C or D
abbrev pub wire_in : List ℕ → Option Wire
wire_in field =
    if bytes_eq field (codes "C") then Some Controller else if bytes_eq field (codes "D") then Some Deck else None

-- the value of a hexadecimal digit, of either case
abbrev pub hex_digit_of : ℕ → Option ℕ
hex_digit_of c = if is_digit c 16 then Some (digit_value c) else None

-- the value of two hexadecimal digits
abbrev pub pair_value : Option ℕ → Option ℕ → Option ℕ
pair_value (Some high) (Some low) = Some (high * 16 + low)
pair_value _ _ = None

-- the byte that a field tells: two hexadecimal digits
abbrev pub byte_in : List ℕ → Option ℕ
byte_in (high ∷ low ∷ []) = pair_value (hex_digit_of high) (hex_digit_of low)
byte_in _ = None
