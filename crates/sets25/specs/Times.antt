-- Sets of times: finite sets of frame numbers.
use Rattle.std.specs.Prelude.{ℕ, ◌≡◌, ◌≤◌, ◌<◌, ◌-◌, Bool, true, ◌||◌, ◌==◌, not, nat_lt, if◌then◌else◌, List, [], ◌∷◌, map, zero, suc}
use Rattle.std.specs.Ordering.{nat_cmp}
use Rattle.std.specs.FinSet as set
use Rattle.tc25.specs.Day.{day, prev_frame}
use Rattle.tc25.specs.declared.rate.Rate.{Rate}

-- a set of frame numbers
abbrev pub Times : Type 0
Times = set.FinSet nat_cmp

-- each member is a time of the day
abbrev pub BelowDay : Rate → Times → Type 0
BelowDay rate s = (t : ℕ) → set.contains s t ≡ true → t < day rate

-- the numbers below n
abbrev pub numbers_below : ℕ → List ℕ
numbers_below zero = []
numbers_below (suc n) = n ∷ numbers_below n

-- the set of the frame numbers below n
unfoldable pub frames_below : ℕ → Times
frames_below n = set.from_list (numbers_below n)

-- every time of the day
unfoldable pub every_time : Rate → Times
every_time rate = frames_below (day rate)

-- the times of the day that pass a test
unfoldable pub times_where : Rate → (ℕ → Bool) → Times
times_where rate test = set.retain (every_time rate) test

-- one time alone
unfoldable pub just : ℕ → Times
just t = set.insert set.empty t

-- one time alone, where it is a time of the day
abbrev pub just_of : Rate → ℕ → Times
just_of rate t = if nat_lt t (day rate) then just t else set.empty

-- the set with one time more, where that is a time of the day
abbrev pub with_time : Rate → Times → ℕ → Times
with_time rate s t = if nat_lt t (day rate) then set.insert s t else s

-- what becomes of a set where each member t becomes h t
unfoldable pub image : (ℕ → ℕ) → Times → Times
image h s = set.from_list (map h (set.items s))

-- t is the least member
pub record IsLeast (s : Times) (t : ℕ) : Type 0 where
  pub is_member : set.contains s t ≡ true
  pub is_below : (u : ℕ) → set.contains s u ≡ true → t ≤ u

-- the number of spans of a set: of its members t such that t is 0 or t - 1 is no member
unfoldable pub span_count : Times → ℕ
span_count s = set.len (set.retain s (λ t. t == 0 || not (set.contains s (t - 1))))

-- the number of members t such that the time before, round the day, is no member
unfoldable pub begin_count : Rate → Times → ℕ
begin_count rate s = set.len (set.retain s (λ t. not (set.contains s (prev_frame rate t))))
