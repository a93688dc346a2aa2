-- The times and the numbers that the values of options name, and the values that an option can't have.
use Rattle.std.specs.Prelude.{◌≡◌, ◌<◌, ◌≤◌, ◌⊎◌, ℕ, ◌+◌, ◌*◌, ◌-◌, ◌^◌, ◌==◌, ◌&&◌, if◌then◌else◌, List, [], ◌∷◌, length, nat_le, Option, Some, None, IfSome, codes, option_map}
use Rattle.std.specs.List.{slice_split}
use Rattle.std.specs.Str.{all_ascii_digits}
use Rattle.std.specs.Str.Parse.{digits_value}
use Rattle.std.specs.String.{string_bytes}
use Rattle.clap.specs.Words.{Row, Text, first_of}
use Rattle.report9.specs.declared.stretch.Stretch.{Stretch}
use Rattle.words9.specs.declared.task.Drawing.{Drawing}
use Rattle.words9.specs.declared.task.NoValue.{NoValue}
use Rattle.words9.specs.declared.task.Unfit.{Unfit}
use Rattle.words9.specs.declared.task.Unfit.TheVariants as unfit

-- the number that decimal digits name, one or more; a word with anything else in it names none
abbrev pub number_of : Text → Option ℕ
number_of word = if nat_le 1 (length word) && all_ascii_digits word then Some (digits_value 10 word) else None

-- a number that is at least so great, and at most so great; another is none
abbrev pub within : ℕ → ℕ → Option ℕ → Option ℕ
within least most None = None
within least most (Some n) = if nat_le least n && nat_le n most then Some n else None

-- the number that a word names, from the least on: it has 32 bits at most
abbrev pub count_of : ℕ → Text → Option ℕ
count_of least word = within least 4294967295 (number_of word)

-- whole seconds, or the hours of a clock: at most nine digits
abbrev pub whole_of : Text → Option ℕ
whole_of word = if nat_le (length word) 9 then number_of word else None

-- the minutes or the seconds of a clock: two digits, below 60
abbrev pub sixtieth_of : Text → Option ℕ
sixtieth_of word = if length word == 2 then within 0 59 (number_of word) else None

-- decimals of a second, in microseconds: at most six digits
abbrev pub decimals_of : Text → Option ℕ
decimals_of word = if nat_le (length word) 6 then option_map (λ n. n * 10 ^ (6 - length word)) (number_of word) else None

-- the parts of a word before, between and behind the bytes that are this one
abbrev pub parts_at : ℕ → Text → List Text
parts_at byte word = slice_split (λ b. b == byte) word

-- hours, minutes and seconds, in seconds
abbrev pub clock : Option ℕ → Option ℕ → Option ℕ → Option ℕ
clock (Some hours) (Some minutes) (Some seconds) = Some (hours * 3600 + minutes * 60 + seconds)
clock _ _ _ = None

-- the seconds that a word with these parts at its colons names: a number, or a clock
abbrev pub seconds_of : List Text → Option ℕ
seconds_of (seconds ∷ []) = whole_of seconds
seconds_of (hours ∷ minutes ∷ seconds ∷ []) = clock (whole_of hours) (sixtieth_of minutes) (sixtieth_of seconds)
seconds_of _ = None

-- seconds and microseconds, in microseconds
abbrev pub microseconds : Option ℕ → Option ℕ → Option ℕ
microseconds (Some seconds) (Some more) = Some (seconds * 1000000 + more)
microseconds _ _ = None

-- the time that a word with these parts at its points names: seconds alone, or with decimals. 58 is the colon
abbrev pub time_in : List Text → Option ℕ
time_in (seconds ∷ []) = microseconds (seconds_of (parts_at 58 seconds)) (Some 0)
time_in (seconds ∷ decimals ∷ []) = microseconds (seconds_of (parts_at 58 seconds)) (decimals_of decimals)
time_in _ = None

-- the time that a word names, in microseconds: 12.5 and 0:00:12.50 are 12500000. 46 is the point
abbrev pub time_of : Text → Option ℕ
time_of word = time_in (parts_at 46 word)

-- what an option says that was given this, or nothing: what its value names, read so; and this where it is left out
abbrev pub said : {A : Type 0} → (Text → Option A) → A → Option Text → Option A
said read left_out None = Some left_out
said read left_out (Some word) = read word

-- the same of an option that says nothing where it is left out
abbrev pub said_if : (Text → Option ℕ) → Option Text → Option (Option ℕ)
said_if read given = said (λ word. option_map (λ n. Some n) (read word)) None given

-- the time of `--from`, which is 0 where it is left out
abbrev pub from_of : List Row → Option ℕ
from_of rows = said time_of 0 (first_of (codes "from") rows)

-- the stretch is the one between the times of `--from` and `--to`: to the end of the capture where `--to` is left out. It ends behind its
-- beginning
pub record IsStretchOf (rows : List Row) (stretch : Stretch) : Type 0 where
  pub from : from_of rows ≡ Some stretch.from_us
  pub to : said_if time_of (first_of (codes "to") rows) ≡ Some stretch.to_us
  pub order : IfSome stretch.to_us (λ to_us. stretch.from_us < to_us)

-- the break at the record of `--at` is drawn, whose number is 1 at least, and the first one where that is left out. The picture may be as
-- wide as `--width`, 700 pixels at least, and 1,200 where that is left out
pub record IsDrawingOf (rows : List Row) (drawing : Drawing) : Type 0 where
  pub at : said_if (count_of 1) (first_of (codes "at") rows) ≡ Some drawing.at
  pub width : said (count_of 700) 1200 (first_of (codes "width") rows) ≡ Some drawing.width

-- this value of this option is no time, or no number that it may be
abbrev pub IsMalformed : Text → Text → Type 0
IsMalformed option value =
    (((option ≡ codes "from") ⊎ (option ≡ codes "to")) × (time_of value ≡ None))
    ⊎ (((option ≡ codes "at") × (count_of 1 value ≡ None)) ⊎ ((option ≡ codes "width") × (count_of 700 value ≡ None)))

-- it is a time of `--to`, and no later than that of `--from`
pub record IsNotLater (rows : List Row) (option value : Text) : Type 0 where
  pub is_to : option ≡ codes "to"
  pub from : ℕ
  pub to : ℕ
  pub is_from : from_of rows ≡ Some from
  pub is_time : time_of value ≡ Some to
  pub order : to ≤ from

-- an option can't have this value for this reason
abbrev pub IsUnfit : List Row → Text → Text → Unfit → Type 0
IsUnfit rows option value unfit.Malformed = IsMalformed option value
IsUnfit rows option value unfit.NotLater = IsNotLater rows option value

-- an option was given this, first, and can't have it
pub record HasNoValue (rows : List Row) (v : NoValue) : Type 0 where
  pub given : first_of v.option.now rows ≡ Some (string_bytes v.value)
  pub unfit : IsUnfit rows v.option.now (string_bytes v.value) v.unfit
