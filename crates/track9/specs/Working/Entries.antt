-- How the entries that a register may have change.
use Rattle.std.specs.Prelude.{if◌then◌else◌, ◌||◌, ◌∷◌}
use Rattle.track9.specs.Working.Deck.{[], Bool, Change, Entries, every_time, false, image, just_of, List, Next, next_frame, None, not, Option, Prev, prev_frame, Recall, Reset}
use Rattle.track9.specs.Working.Deck.{SetAt, Rate, SetSomewhere, Some, Times, true, with_time, ℕ}
use Rattle.std.specs.FinSet as set

abbrev pub entries : Rate → Bool → Times → Entries
entries rate c ts = record { may_clear = c; times = ts; rate = rate }

-- no entry, and every entry
abbrev pub no_entries : Rate → Entries
no_entries rate = entries rate false set.empty

abbrev pub all_entries : Rate → Entries
all_entries rate = entries rate true (every_time rate)

-- what becomes of the entries
abbrev pub changed : Change → Entries → Entries
changed SetSomewhere es = entries es.rate false (every_time es.rate)
changed (SetAt t) es = entries es.rate false (just_of es.rate t)
changed Next es = entries es.rate es.may_clear (image (next_frame es.rate) es.times)
changed Prev es = entries es.rate es.may_clear (image (prev_frame es.rate) es.times)
changed Reset es = entries es.rate true set.empty
changed Recall es = entries es.rate true (every_time es.rate)

-- the entries after a change that the deck may also ignore
abbrev pub widened : Change → Entries → Entries
widened SetSomewhere es = entries es.rate es.may_clear (every_time es.rate)
widened (SetAt t) es = entries es.rate es.may_clear (with_time es.rate es.times t)
widened Next es = entries es.rate es.may_clear (set.union es.times (image (next_frame es.rate) es.times))
widened Prev es = entries es.rate es.may_clear (set.union es.times (image (prev_frame es.rate) es.times))
widened Reset es = entries es.rate true es.times
widened Recall es = entries es.rate true (every_time es.rate)

-- the entries that agree with the time that was read, if it was a valid one
abbrev pub agreeing : Option ℕ → Entries → Entries
agreeing None es = entries es.rate es.may_clear set.empty
agreeing (Some t) es = entries es.rate es.may_clear (if set.contains es.times t then just_of es.rate t else set.empty)

-- the entries that are Set, or are Clear
abbrev pub set_entries : Bool → Entries → Entries
set_entries true es = entries es.rate false es.times
set_entries false es = entries es.rate es.may_clear set.empty

-- the entries where one may have been lost
abbrev pub lost_entries : Bool → Entries → Entries
lost_entries lost es = entries es.rate (es.may_clear || lost) es.times

-- nothing is listed
abbrev pub is_nil : List ℕ → Bool
is_nil [] = true
is_nil (x ∷ xs) = false

-- there is an entry
abbrev pub some_entry : Entries → Bool
some_entry es = es.may_clear || not (is_nil (set.items es.times))
