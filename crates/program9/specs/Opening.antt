-- The end where a file is not opened.
use Rattle.std.specs.Prelude.{Option, String}
use Rattle.std.specs.Global.{Global}
use Rattle.std.specs.IoError.{error_kind}
use Rattle.std.specs.declared.io.Error.{Error}
use Rattle.std.specs.declared.io.ErrorKind.{ErrorKind}
use Rattle.std.specs.declared.io.ErrorKind.TheVariants.{FilesystemLoop, IsADirectory, NotADirectory, NotFound, OutOfMemory, PermissionDenied}
use Rattle.program9.specs.declared.ending.Message.TheVariants as message
use Rattle.program9.specs.declared.ending.Outcome.{Outcome}
use Rattle.program9.specs.declared.ending.WhyUnopened.{WhyUnopened}
use Rattle.program9.specs.declared.ending.WhyUnopened.TheVariants as why

-- the end where memory runs out
abbrev pub no_memory : Outcome
no_memory = record { status = 5; message = message.NoMemory }

-- why a file was not opened, by the kind of its opener's error, or its reader's
abbrev pub why_of : ErrorKind → WhyUnopened
why_of NotFound = why.NotFound
why_of PermissionDenied = why.PermissionDenied
why_of IsADirectory = why.IsADirectory
why_of NotADirectory = why.NotADirectory
why_of FilesystemLoop = why.FilesystemLoop
why_of _ = why.Other

-- the end after a capture that was not opened: out of memory, or that this file can't be opened, and why
abbrev pub outcome_of_kind : Option (String Global) → ErrorKind → Outcome
outcome_of_kind file OutOfMemory = no_memory
outcome_of_kind file k = record { status = 4; message = message.CannotOpen (record { file = file; why = why_of k }) }

abbrev pub outcome_unopened : Option (String Global) → Error → Outcome
outcome_unopened file e = outcome_of_kind file (error_kind e)
