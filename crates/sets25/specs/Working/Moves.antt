-- The neighbour of a frame in either direction, and where a direction leads out of the day.
use Rattle.std.specs.Prelude.{ℕ}
use Rattle.tc25.specs.Day.{last_frame, next_frame, prev_frame}
use Rattle.tc25.specs.declared.rate.Rate.{Rate}
use Rattle.sets25.specs.declared.direction.Direction.{Direction}
use Rattle.sets25.specs.declared.direction.Direction.TheVariants.{Next, Prev}

-- the frame that t moves to
abbrev pub moved : Rate → Direction → ℕ → ℕ
moved rate Next t = next_frame rate t
moved rate Prev t = prev_frame rate t

-- the frame that moves to t
abbrev pub moved_from : Rate → Direction → ℕ → ℕ
moved_from rate Next t = prev_frame rate t
moved_from rate Prev t = next_frame rate t

-- the frame that leaves the day
abbrev pub edge_of : Rate → Direction → ℕ
edge_of rate Next = last_frame rate
edge_of rate Prev = 0

-- the frame where it comes in again
abbrev pub far_edge_of : Rate → Direction → ℕ
far_edge_of rate d = moved rate d (edge_of rate d)
