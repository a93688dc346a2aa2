-- What the program says where it is asked for its version.
use Rattle.std.specs.Prelude.{◌≡◌, ◌⊎◌, ℕ, List, Option}
use Rattle.std.specs.Io.KnownBytes.{Appends}
use Rattle.report9.specs.Writing.{AppendsPart}
use Rattle.words9.specs.declared.task.TheConstants.{VERSION_LINE}
use Rattle.program9.specs.declared.ending.Message.TheVariants as message
use Rattle.program9.specs.declared.ending.Outcome.{Outcome}

-- its name and version were written, and the status is 0; or the writer failed, and a first part was written
abbrev pub TellsVersion : Option (List ℕ) → Outcome → Option (List ℕ) → Type 0
TellsVersion old end now =
    ((end ≡ record { status = 0; message = message.Nothing }) × Appends old now VERSION_LINE.now)
    ⊎ ((end ≡ record { status = 4; message = message.WriteFault }) × AppendsPart old now VERSION_LINE.now)
