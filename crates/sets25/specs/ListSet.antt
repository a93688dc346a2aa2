-- The members of a `ListSet`.
use Rattle.std.specs.Prelude.{◌||◌}
use Rattle.sets25.specs.Times.{Times, times_where}
use Rattle.sets25.specs.Frames.{is_listed}
use Rattle.sets25.specs.declared.list_set.ListSet.{ListSet}

-- every time of the day, or the listed ones
abbrev pub members_of : ListSet → Times
members_of s = times_where s.rate (λ f. s.is_everything || is_listed f s.frames.items)
