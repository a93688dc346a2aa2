-- The same parts where so many records more come before them: only the numbers of their records differ.
use Rattle.std.specs.Prelude.{ℕ, ◌+◌, map}
use Rattle.report9.specs.declared.totals.Totals.{Totals}
use Rattle.judge9.specs.Beginning.{Rest}
use Rattle.judge9.specs.Parts.{BrokenPart, Event, Part}
use Rattle.judge9.specs.Parts.Event.{exchange, late_reply}

abbrev pub renumbered_rest : ℕ → Rest → Rest
renumbered_rest more rest = record { past = more + rest.past; records = rest.records }

abbrev pub renumbered_event : ℕ → Event → Event
renumbered_event more (late_reply at asked r) = late_reply (more + at) asked r
renumbered_event more (exchange at before e) = exchange (more + at) before e

abbrev pub renumbered_part : ℕ → Part → Part
renumbered_part more part = record part { past = more + part.past; events = map (renumbered_event more) part.events }

abbrev pub renumbered_break : ℕ → BrokenPart → BrokenPart
renumbered_break more b = record b { part = renumbered_part more b.part; events = map (renumbered_event more) b.events }

-- those records are passed over
abbrev pub renumbered_totals : ℕ → Totals → Totals
renumbered_totals more totals = record totals { records = more + totals.records; passed_over = more + totals.passed_over }
