-- The exit status of the program.
use Rattle.std.specs.Prelude.{ℕ, Option, Some, None}
use Rattle.clap.specs.Words.{kind_of}
use Rattle.clap.specs.declared.error.Error.{Error}
use Rattle.clap.specs.declared.error.kind.ErrorKind.{ErrorKind}
use Rattle.clap.specs.declared.error.kind.ErrorKind.TheVariants.{DisplayHelp}
use Rattle.program9.specs.declared.ending.End.{End}
use Rattle.program9.specs.declared.ending.End.TheVariants as end

-- of words that `clap` does not take, by why it does not: 0 where they ask for help
abbrev pub status_of_kind : ErrorKind → ℕ
status_of_kind DisplayHelp = 0
status_of_kind _ = 2

abbrev pub usage_status : Option Error → ℕ
usage_status (Some text) = status_of_kind (kind_of text)
usage_status None = 2

-- 0 where the words ask for help, 2 where they are no command, or a value in them is none, and else that of the outcome
abbrev pub status_of : End → ℕ
status_of (end.Usage text) = usage_status text
status_of (end.NoValue text) = 2
status_of (end.Told outcome) = outcome.status
