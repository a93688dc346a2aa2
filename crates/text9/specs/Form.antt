-- A form: the program's own markup with places, in which numbers and foreign texts are put.
use Rattle.std.specs.Prelude.{ℕ, zero, suc, Bool, true, false, ◌+◌, ◌/◌, ◌%◌, ◌&&◌, ◌||◌, ◌==◌, nat_lt, if◌then◌else◌, List, [], ◌∷◌, ◌++◌, drop}
use Rattle.std.specs.Fmt.{decimal}
use Rattle.report9.specs.Bytes.{hex_byte}
use Rattle.text9.specs.Markup.{escaped}

-- the last decimal digit of a number
abbrev pub last_digit : ℕ → ℕ
last_digit n = 48 + n % 10

-- a number with a comma before each three of its last digits, as far as so many commas go
unfoldable pub grouped : ℕ → ℕ → List ℕ
grouped zero n = decimal n
grouped (suc commas) n = if nat_lt n 1000 then decimal n else grouped commas (n / 1000) ++ (44 ∷ last_digit (n / 100) ∷ last_digit (n / 10) ∷ last_digit n ∷ [])

-- a number with a point before the last of its digits, before the last two, three or six
abbrev pub tenths : ℕ → List ℕ
tenths n = decimal (n / 10) ++ (46 ∷ last_digit n ∷ [])

abbrev pub hundredths : ℕ → List ℕ
hundredths n = decimal (n / 100) ++ (46 ∷ last_digit (n / 10) ∷ last_digit n ∷ [])

abbrev pub thousandths : ℕ → List ℕ
thousandths n = decimal (n / 1000) ++ (46 ∷ last_digit (n / 100) ∷ last_digit (n / 10) ∷ last_digit n ∷ [])

abbrev pub millionths : ℕ → List ℕ
millionths n =
    decimal (n / 1000000)
    ++ (46 ∷ last_digit (n / 100000) ∷ last_digit (n / 10000) ∷ last_digit (n / 1000) ∷ last_digit (n / 100) ∷ last_digit (n / 10) ∷ last_digit n ∷ [])

-- a number divided by 100 and rounded, a half to the even neighbour
abbrev pub to_hundreds : ℕ → ℕ
to_hundreds n = if nat_lt 50 (n % 100) || (n % 100 == 50 && n / 100 % 2 == 1) then n / 100 + 1 else n / 100

-- microseconds as hours, minutes and seconds, cut to the millisecond
abbrev pub clock : ℕ → List ℕ
clock us =
    let hours = us / 3600000000 in
    (if nat_lt hours 10 then 48 ∷ decimal hours else decimal hours)
    ++ (58 ∷ (48 + us / 600000000 % 6) ∷ last_digit (us / 60000000)
    ∷ 58 ∷ (48 + us / 10000000 % 6) ∷ last_digit (us / 1000000)
    ∷ 46 ∷ last_digit (us / 100000) ∷ last_digit (us / 10000) ∷ last_digit (us / 1000) ∷ [])

-- a number as the letter of its place says: with commas, its last two digits, with so many decimals, as thousandths of a pixel,
-- as a byte, as a time on the clock, or plain
unfoldable pub number_by : ℕ → ℕ → List ℕ
number_by letter n =
    if letter == 99 then grouped 6 n
    else if letter == 100 then last_digit (n / 10) ∷ last_digit n ∷ []
    else if letter == 49 then tenths n
    else if letter == 50 then hundredths n
    else if letter == 51 then thousandths n
    else if letter == 54 then millionths n
    else if letter == 112 then tenths (to_hundreds n)
    else if letter == 120 then hex_byte n
    else if letter == 104 then clock n
    else decimal n

-- what is put for the next of some numbers or texts: nothing where none is left
abbrev pub next_number : ℕ → List ℕ → List ℕ
next_number letter [] = []
next_number letter (n ∷ numbers) = number_by letter n

abbrev pub next_text : List (List ℕ) → List ℕ
next_text [] = []
next_text (text ∷ texts) = escaped text

-- the form, from inside a place or outside of one, with these numbers and texts in its places
-- { begins a place and } ends it. In it each letter takes what is next: t a text, which is escaped, and each other letter a number
unfoldable pub filled : Bool → List ℕ → List ℕ → List (List ℕ) → List ℕ
filled inside [] numbers texts = []
filled inside (b ∷ form) numbers texts =
    if b == 123 then filled true form numbers texts
    else if b == 125 then filled false form numbers texts
    else if inside && b == 116 then next_text texts ++ filled inside form numbers (drop 1 texts)
    else if inside then next_number b numbers ++ filled inside form (drop 1 numbers) texts
    else b ∷ filled inside form numbers texts
