-- Times of a day of 24 hours at each rate: frame numbers, their labels, their BCD bytes and their text.
use Rattle.std.specs.Prelude.{ℕ, ◌≡◌, ◌+◌, ◌-◌, ◌*◌, ◌/◌, ◌%◌, ◌<◌, ◌==◌, ◌&&◌, not, nat_lt, nat_le, if◌then◌else◌, List, [], ◌∷◌, ◌++◌, Option, Some, None, option_and_then, is_some, Bool, true, bit_and, codes, zero, suc}
use Rattle.tc25.specs.declared.rate.Rate.{Rate}
use Rattle.tc25.specs.declared.rate.Rate.TheVariants.{Fps24, Fps25, Fps30, DropFrame}

-- the frames of a day; a time is a number below it
abbrev pub day : Rate → ℕ
day Fps24 = 2073600
day Fps25 = 2160000
day Fps30 = 2592000
day DropFrame = 2589408

-- the frames of the longest day
abbrev pub longest_day : ℕ
longest_day = day Fps30

-- the last frame of the day
abbrev pub last_frame : Rate → ℕ
last_frame rate = day rate - 1

-- the frame after t; after the last of the day comes frame 0
abbrev pub next_frame : Rate → ℕ → ℕ
next_frame rate t = if nat_lt t (last_frame rate) then t + 1 else 0

-- the frame before t; before frame 0 comes the last of the day
abbrev pub prev_frame : Rate → ℕ → ℕ
prev_frame rate t = if t == 0 then last_frame rate else t - 1

-- ---- labels

-- A label is hours, minutes, seconds and frames. It is counted as if each second of the day had all its labels.

-- how many labels a second has
abbrev pub in_second : Rate → ℕ
in_second Fps24 = 24
in_second Fps25 = 25
in_second _ = 30

-- the frame within its second
abbrev pub frames_of : Rate → ℕ → ℕ
frames_of rate label = label % in_second rate

-- the second within its minute, below 60
abbrev pub seconds_of : Rate → ℕ → ℕ
seconds_of rate label = label / in_second rate % 60

-- the minute within its hour, below 60
abbrev pub minutes_of : Rate → ℕ → ℕ
minutes_of rate label = label / (60 * in_second rate) % 60

-- the hour, below 24 within a day
abbrev pub hours_of : Rate → ℕ → ℕ
hours_of rate label = label / (3600 * in_second rate)

-- a label that names a frame; drop frame leaves out frames 00 and 01 of second 00 of each minute that is no multiple of ten
abbrev pub is_label : Rate → ℕ → Bool
is_label DropFrame label =
    not (nat_lt (frames_of DropFrame label) 2 && (seconds_of DropFrame label == 0) && not (minutes_of DropFrame label % 10 == 0))
is_label _ label = true

-- how many labels that name a frame come before one
abbrev pub labels_before : Rate → ℕ → ℕ
labels_before rate zero = zero
labels_before rate (suc label) = labels_before rate label + (if is_label rate label then 1 else 0)

-- how many labels a day has, those that name no frame included
abbrev pub labels_in_day : Rate → ℕ
labels_in_day rate = 86400 * in_second rate

-- the label names frame t: it is one of the day, and t others that name a frame come before it
pub record Names (rate : Rate) (label t : ℕ) : Type 0 where
  pub in_day : label < labels_in_day rate
  pub is_label : is_label rate label ≡ true
  pub before : labels_before rate label ≡ t

-- the label of frame t: in drop frame ten minutes have 17,982 frames, the first of them 1,800, and each other minute 1,798
abbrev pub label_of : Rate → ℕ → ℕ
label_of DropFrame t = t + 18 * (t / 17982) + 2 * ((t % 17982 - 2) / 1798)
label_of _ t = t

-- the frame that a label names, if it names one: in drop frame each minute that is no multiple of ten leaves out two
abbrev pub frame_named : Rate → ℕ → Option ℕ
frame_named DropFrame label = if is_label DropFrame label then Some (label - 2 * (label / 1800 - label / 18000)) else None
frame_named _ label = Some label

-- ---- BCD bytes

-- a number below 100 as one byte, a decimal digit in each half
abbrev pub bcd : ℕ → ℕ
bcd n = 16 * (n / 10) + n % 10

-- the four bytes of a label
abbrev pub bytes_of_label : Rate → ℕ → List ℕ
bytes_of_label rate label = bcd (frames_of rate label) ∷ bcd (seconds_of rate label) ∷ bcd (minutes_of rate label) ∷ bcd (hours_of rate label) ∷ []

-- the four bytes of a time
abbrev pub bytes_of : Rate → ℕ → List ℕ
bytes_of rate t = bytes_of_label rate (label_of rate t)

-- four bytes of frames, seconds, minutes and hours, with the flag bits cleared
abbrev pub masked : List ℕ → List ℕ
masked (f ∷ s ∷ m ∷ h ∷ []) = bit_and f 0x3F ∷ bit_and s 0x7F ∷ bit_and m 0x7F ∷ bit_and h 0x3F ∷ []
masked _ = []

-- four bytes read as the time t where, but for the flag bits, they are its bytes
abbrev pub ReadsAs : Rate → List ℕ → ℕ → Type 0
ReadsAs rate bytes t = (t < day rate) × (masked bytes ≡ bytes_of rate t)

-- the number that a byte of two decimal digits spells, where it is at most `greatest`
abbrev pub digits_of : ℕ → ℕ → Option ℕ
digits_of greatest byte = if nat_lt (byte % 16) 10 && nat_le (byte / 16 * 10 + byte % 16) greatest then Some (byte / 16 * 10 + byte % 16) else None

-- the label that bytes without flag bits spell
abbrev pub label_spelled : Rate → List ℕ → Option ℕ
label_spelled rate (f ∷ s ∷ m ∷ h ∷ []) =
    option_and_then (λ frames. option_and_then (λ seconds. option_and_then (λ minutes.
    option_and_then (λ hours. Some (((hours * 60 + minutes) * 60 + seconds) * in_second rate + frames)) (digits_of 23 h)) (digits_of 59 m))
    (digits_of 59 s)) (digits_of (in_second rate - 1) f)
label_spelled rate _ = None

-- the time that four bytes read as, if they read as any
unfoldable pub time_of : Rate → List ℕ → Option ℕ
time_of rate bytes = option_and_then (frame_named rate) (label_spelled rate (masked bytes))

-- four bytes are a valid time where they read as one
abbrev pub is_valid_time : Rate → List ℕ → Bool
is_valid_time rate bytes = is_some (time_of rate bytes)

-- ---- text

-- a number below 100 as two ASCII digits
abbrev pub ascii_digits : ℕ → List ℕ
ascii_digits n = (48 + n / 10) ∷ (48 + n % 10) ∷ []

-- what stands between the parts of a text
abbrev pub colon : List ℕ
colon = codes ":"

-- what stands before the frames: a semicolon in drop frame
abbrev pub before_frames : Rate → List ℕ
before_frames DropFrame = codes ";"
before_frames _ = colon

-- the text of a label, hh:mm:ss:ff
abbrev pub text_of_label : Rate → ℕ → List ℕ
text_of_label rate label =
    ascii_digits (hours_of rate label) ++ colon ++ ascii_digits (minutes_of rate label) ++ colon
    ++ ascii_digits (seconds_of rate label) ++ before_frames rate ++ ascii_digits (frames_of rate label)

-- the text of a time
unfoldable pub text_of : Rate → ℕ → List ℕ
text_of rate t = text_of_label rate (label_of rate t)
