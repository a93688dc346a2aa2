-- The table [runs]: which modes a deck may show by itself after some commands.
use Rattle.toml.specs.Data.{as_array}
use Rattle.deck9.specs.declared.mode_set.ModeSet.{ModeSet}
use Rattle.sheet9.specs.declared.refusal.TableName.TheVariants.{Runs}
use Rattle.sheet9.specs.Acts.{unfit_to_begin}
use Rattle.sheet9.specs.Entries.{CommandTable}
use Rattle.sheet9.specs.Modes.{modes_in}

-- the table
abbrev pub runs_table : CommandTable ModeSet
runs_table = record { name = Runs; unfit = unfit_to_begin; value_of = λ key value. modes_in Runs key (as_array value) }
