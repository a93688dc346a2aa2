-- How much of some bytes was written.
use Rattle.std.specs.Prelude.{ℕ, ◌≤◌, List, length, take, Option, Result, Ok, Err}
use Rattle.std.specs.Io.KnownBytes.{Appends}

-- known bytes grow by a first part of these, which may be none or all of them
abbrev pub AppendsPart : Option (List ℕ) → Option (List ℕ) → List ℕ → Type 0
AppendsPart old new bytes = (n : ℕ) × (n ≤ length bytes) × Appends old new (take n bytes)

-- the result of writing bytes to a writer: all were written, or a first part of them where the writer failed
abbrev pub Writes : {A E : Type 0} → List ℕ → Result A E → Option (List ℕ) → Option (List ℕ) → Type 0
Writes bytes (Ok a) old new = Appends old new bytes
Writes bytes (Err e) old new = AppendsPart old new bytes
